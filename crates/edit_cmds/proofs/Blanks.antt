-- How far spaces and tabs reach from a place.
use Rattle.std.proofs.lemmas.List.Sums.{suffix_len-take_yes, suffix_len-take_no, prefix_len-drop_yes, prefix_len-drop_no, prefix_len-drop_all}

-- what is known of such runs
pub ruleset blanks = (suffix_len-take_yes, suffix_len-take_no, prefix_len-drop_yes, prefix_len-drop_no, prefix_len-drop_all)
