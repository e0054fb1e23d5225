-- What words ask for, by what the reader of the command found in them.
use Rattle.std.proofs.Common.{◌≡◌, ℕ, List, [], ◌∷◌, Option, None, Some, Bool, false, refl, ap, sym, ◌∙◌, true, option_map, inl, inr}
use Rattle.std.specs.Str.{chars}
use Rattle.std.proofs.lemmas.Bool.{false≢true}
use Rattle.clap.proofs.WalkLemmas.{first_value-rows}
use Rattle.clap.specs.declared.parser.matches.Found.{Found}
use Rattle.clap.specs.Words.{first_value, Kinds, Row, fault_of, found_of, is_simple_and_free, is_simple, matches_of, rows_of, HasKind, kind_of}
use Rattle.clap.specs.declared.error.Error.{Error}
use Rattle.clap.specs.declared.error.kind.ErrorKind.TheVariants as kind
use Rattle.clap.specs.declared.parser.matches.ArgMatches.{ArgMatches}
use Rattle.command_words.specs.Asked.{asked_by, asked_of, value_in}
use Rattle.command_words.specs.Command.{prompt_app}
use Rattle.command_words.specs.Found.{Finds}

asked_by_none : (kinds : Kinds) (rows : List Row) → (kinds ≡ [] → ⊥) → asked_by kinds rows ≡ None
asked_by_none [] rows some = absurd (some refl)
asked_by_none (kind ∷ kinds) rows some = refl

-- words in which a fault was found ask for nothing
pub none_asked : (words : List (List ℕ)) → Finds words None → None ≡ asked_of words
unfolding asked_of
none_asked words found = sym (asked_by_none (fault_of prompt_app words) (matches_of prompt_app words) found)

-- others for what their options ask for
pub some_asked : (words : List (List ℕ)) (matches : ArgMatches) → Finds words (Some matches) → asked_by [] (rows_of (found_of matches)) ≡ asked_of words
unfolding asked_of
some_asked words matches found =
    ap (asked_by []) found.1 ∙ sym (ap (λ kinds. asked_by kinds (matches_of prompt_app words)) found.0)

-- the command is one whose options and faults are known
pub is_plain : is_simple_and_free prompt_app ≡ true
unfolding prompt_app
is_plain = refl

pub is_known : is_simple prompt_app ≡ true
unfolding prompt_app
is_known = refl

abbrev empty : {X : Type 0} → List X → Bool
empty [] = true
empty (x ∷ xs) = false

nil_is_none : {X : Type 0} (x : X) (xs : List X) → x ∷ xs ≡ [] → ⊥
nil_is_none x xs is = false≢true (ap empty is)

-- an error that is not want of memory is a fault of the words
pub faulty : (kinds : Kinds) (error : Error) → HasKind kinds error → (kind_of error ≡ kind.OutOfMemory → ⊥) → kinds ≡ [] → ⊥
faulty [] error (inl memory) other none = other memory
faulty [] error (inr among) other none = among
faulty (kind ∷ kinds) error has other none = absurd (nil_is_none kind kinds none)

-- the value of an option, as it is read
pub value_is : (found : Found) (name : List ℕ) → value_in (rows_of found) name ≡ option_map chars (first_value found name)
value_is found name = sym (ap (option_map chars) (first_value-rows found name))
