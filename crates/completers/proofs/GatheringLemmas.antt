-- What each node makes of the lists of completions.
use Rattle.std.proofs.Common.{◌≡◌, ℕ, ◌+◌, ◌-◌, ◌<◌, ◌≤◌, Bool, true, false, List, [], ◌∷◌, ◌++◌, length, take, drop, get_or, Option, Some, None, refl, sym, ap, ◌∙◌, arith, append_assoc}
use Rattle.std.specs.Option.{is_some, option_to_list}
use Rattle.std.proofs.lemmas.List.{length-append, take_all, take_more, take_at, drop_at, get_or_at}
use Rattle.text_doc.specs.Document.{Document}
use Rattle.text_doc.specs.declared.completions.Completion.{Completion}
use Rattle.completers.specs.declared.trees.Node.{Node}
use Rattle.completers.specs.declared.trees.Node.TheVariants.{Words, Merged, Distinct}
use Rattle.completers.specs.Typed.{typed_word}
use Rattle.completers.specs.Trees.{Tree, words, merged, distinct, trees_of}
use Rattle.completers.specs.Listed.{before_cursor, all_items}
use Rattle.completers.specs.Gathered.{Gathers, Gathering, own_texts, joined, starts_of, lists_of}
use Rattle.completers.proofs.ReachLemmas.{distinct_by_text}

-- a list of its own stands behind the others
gathers_more : (d : Document) (trees : List Tree) (one : Tree) (items more : List Completion) (starts next : List ℕ) → Gathers d trees items starts
    → more ≡ items ++ all_items one d → next ≡ starts ++ length items ∷ [] → Gathers d (one ∷ trees) more next
gathers_more d trees one items more starts next so_far put begun = record {
  items_are = put ∙ ap (λ ys. ys ++ all_items one d) so_far.items_are;
  starts_are = begun ∙ ap (λ ys. ys ++ length items ∷ []) so_far.starts_are ∙ ap (λ ys. starts_of (lists_of d trees) ++ length ys ∷ []) so_far.items_are;
}

pub take_words : (d : Document) (trees : List Tree) (nodes : List Node) (tree : Tree) (listed : List (List ℕ)) (middle : Bool) (items more : List Completion) (starts next : List ℕ)
    → Gathers d trees items starts → trees_of (Words listed middle ∷ nodes) trees ≡ tree ∷ []
    → more ≡ items ++ all_items (words listed middle) d → next ≡ starts ++ length items ∷ [] → Gathering d nodes tree more next
take_words d trees nodes tree listed middle items more starts next so_far goes put begun =
    (words listed middle ∷ trees, gathers_more d trees (words listed middle) items more starts next so_far put begun, goes)

-- the last of some places, with the others
pub record Last (starts : List ℕ) (last : ℕ) : Type 0 where
  pub others : List ℕ
  pub is : starts ≡ others ++ last ∷ []

-- the place that a read of the last one gives
pub last_of : (starts list : List ℕ) (last : ℕ) → list ≡ starts → 0 < length list → last ≡ get_or list (length list - 1) 0 → Last starts last
last_of starts list last same some is = record {
  others = take (length list - 1) list;
  is = sym same ∙ sym (take_all (length list - 1 + 1) list (omega arith)) ∙ take_more list (length list - 1) 0 (omega arith)
      ∙ ap (λ x. take (length list - 1) list ++ x ∷ []) (sym is);
}

same_front : (xs ys : List ℕ) (x y : ℕ) → xs ++ x ∷ [] ≡ ys ++ y ∷ [] → xs ≡ ys
same_front xs ys x y is =
    let size : length xs ≡ length ys = omega (arith, length-append xs (x ∷ []), length-append ys (y ∷ []), ap length is) in
    sym (take_at xs (x ∷ []) (length xs) refl) ∙ ap (take (length xs)) is ∙ take_at ys (y ∷ []) (length xs) (sym size)

same_last : (xs ys : List ℕ) (x y : ℕ) → xs ++ x ∷ [] ≡ ys ++ y ∷ [] → x ≡ y
same_last xs ys x y is =
    let size : length xs ≡ length ys = omega (arith, length-append xs (x ∷ []), length-append ys (y ∷ []), ap length is) in
    sym (get_or_at xs x [] 0 (length xs) refl) ∙ ap (λ zs. get_or zs (length xs) 0) is ∙ get_or_at ys y [] 0 (length xs) (sym size)

-- the last two lists are one
pub take_merged : (d : Document) (trees : List Tree) (nodes : List Node) (tree : Tree) (items : List Completion) (starts next : List ℕ) (popped : Option ℕ)
    → Gathers d trees items starts → trees_of (Merged ∷ nodes) trees ≡ tree ∷ []
    → starts ≡ next ++ option_to_list popped → (0 < length starts → is_some popped ≡ true) → Gathering d nodes tree items next
take_merged d [] nodes tree items starts next popped so_far goes is some = cc
take_merged d (one ∷ []) nodes tree items starts next popped so_far goes is some = cc
take_merged d (second ∷ first ∷ trees) nodes tree items starts next None so_far goes is some =
    let lists = lists_of d (first ∷ trees) in
    let size : 0 < length starts = omega (arith, ap length so_far.starts_are, length-append (starts_of lists) (length (joined lists) ∷ [])) in
    let no_place : false ≡ true = some size in
    cc
take_merged d (second ∷ first ∷ trees) nodes tree items starts next (Some last) so_far goes is some =
    let lists = lists_of d (first ∷ trees) in (
      merged first second ∷ trees,
      record {
        items_are = so_far.items_are ∙ append_assoc (joined (lists_of d trees)) (all_items first d) (all_items second d);
        starts_are = same_front next (starts_of lists) last (length (joined lists)) (sym is ∙ so_far.starts_are);
      },
      goes,
    )

-- the last list starts where its place says
pub last_start : (d : Document) (one : Tree) (trees : List Tree) (items : List Completion) (starts : List ℕ) (last : ℕ)
    → Gathers d (one ∷ trees) items starts → Last starts last → last ≡ length (joined (lists_of d trees))
last_start d one trees items starts last so_far end =
    same_last end.others (starts_of (lists_of d trees)) last (length (joined (lists_of d trees))) (sym end.is ∙ so_far.starts_are)

-- of the last list those stay that give a text of their own
pub take_distinct : (d : Document) (trees : List Tree) (nodes : List Node) (tree : Tree) (items more : List Completion) (starts : List ℕ) (last : ℕ)
    → d.cursor ≤ length d.text → Gathers d trees items starts → trees_of (Distinct ∷ nodes) trees ≡ tree ∷ []
    → Last starts last → more ≡ take last items ++ own_texts (typed_word (before_cursor d)) (drop last items) → Gathering d nodes tree more starts
take_distinct d [] nodes tree items more starts last within so_far goes end kept = cc
take_distinct d (one ∷ trees) nodes tree items more starts last within so_far goes end kept =
    let typed = typed_word (before_cursor d) in
    let front = joined (lists_of d trees) in
    let at = last_start d one trees items starts last so_far end in
    let before : take last items ≡ front = ap (take last) so_far.items_are ∙ take_at front (all_items one d) last (sym at) in
    let behind : drop last items ≡ all_items one d = ap (drop last) so_far.items_are ∙ drop_at front (all_items one d) last (sym at) in (
      distinct one ∷ trees,
      record {
        items_are = kept ∙ ap (λ ys. ys ++ own_texts typed (drop last items)) before ∙ ap (λ ys. front ++ own_texts typed ys) behind
            ∙ ap (λ ys. front ++ ys) (distinct_by_text one d within);
        starts_are = so_far.starts_are;
      },
      goes,
    )

-- where one tree is left, its completions are all
pub gathers_one : (d : Document) (tree : Tree) (items : List Completion) (starts : List ℕ) → Gathering d [] tree items starts → items ≡ all_items tree d
gathers_one d tree items starts goes = goes.1.items_are ∙ ap (λ trees. joined (lists_of d trees)) goes.2
