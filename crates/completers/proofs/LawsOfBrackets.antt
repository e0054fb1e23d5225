-- Where the validator of brackets finds a fault.
use Prim.Native.Nat.{zero, suc}
use Rattle.std.proofs.Common.{◌≡◌, ℕ, ◌+◌, ◌<◌, Bool, true, false, List, [], ◌∷◌, ◌++◌, length, take, drop, get_or, map, cond, Option, Some, None, refl, sym, ap, ◌∙◌, subst, ◌⊎◌, inl, inr, ⊎_elim, arith}
use Rattle.std.specs.List.{All}
use Rattle.std.specs.Option.{is_none}
use Rattle.std.proofs.lemmas.Bool.{cases_Bool, cases_lt, both_ways, cond_both}
use Rattle.std.proofs.lemmas.List.{take-append-drop, take_all, get_or_at, length_push, append_assoc}
use Rattle.std.proofs.lemmas.List.Elements.{All-nil, All-cons, All-head, All-tail}
use Rattle.std.proofs.lemmas.Option.{none-some, same_Some}
use Rattle.text_doc.proofs.Walks.{first_found, first_none}
use Rattle.completers.specs.declared.brackets.Opened.{Opened}
use Rattle.completers.specs.Pairs.{is_opening, is_closing, are_pair, closed_by, after_character, unclosed, fault_of, bracket_fault}
use Rattle.completers.specs.Balanced.{IsBalanced, CanBeBalanced}
use Rattle.completers.proofs.PairLemmas.{closes_pair, partner, partner_pairs, opening_closes_not}
use Rattle.completers.proofs.BalancedLemmas.{left_open, left_open-append, none_stays, nothing_open, is_balanced}

-- whether the closing bracket at `i`, or one before it, matches none
abbrev stops_by : List ℕ → ℕ → Bool
stops_by text i = is_none (unclosed (take (i + 1) text))

-- a test fails below a number, or it passes first somewhere
abbrev Least : (ℕ → Bool) → ℕ → Type 0
Least p n = ((k : ℕ) → k < n → p k ≡ false) ⊎ ((i : ℕ) × (i < n) × (p i ≡ true) × ((k : ℕ) → k < i → p k ≡ false))

least : (p : ℕ → Bool) (n : ℕ) → Least p n
least p zero = inl (λ k below. absurd (omega (arith, below)))
least p (suc n) =
    ⊎_elim
    (λ none. ⊎_elim (λ here. inr (n, omega arith, here, none)) (λ not_here. inl (λ k below. fails_more p n none not_here k below)) (cases_Bool (p n)))
    (λ found. inr (found.0, omega (arith, found.1), found.2, found.3))
    (least p n)
  where
    fails_more : (q : ℕ → Bool) (m : ℕ) → ((k : ℕ) → k < m → q k ≡ false) → q m ≡ false → (k : ℕ) → k < suc m → q k ≡ false
    fails_more q m none at k below =
        ⊎_elim (λ lower. none k lower) (λ high. let e : k ≡ m = omega (arith, below, high) in ap q e ∙ at) (cases_lt k m)

-- a closing bracket at `i` matches none, and is told
abbrev pub StopsAt : List ℕ → ℕ → List Opened → Type 0
StopsAt text i s = (i < length text) × (unclosed (take i text) ≡ Some s) × (unclosed (take (i + 1) text) ≡ None) × (bracket_fault text ≡ Some i)

-- each closing bracket matches
abbrev pub ReadsTo : List ℕ → List Opened → Type 0
ReadsTo text s = (unclosed text ≡ Some s) × (bracket_fault text ≡ fault_of None (Some s))

some_open : (o : Option (List Opened)) → is_none o ≡ false → (s : List Opened) × (o ≡ Some s)
some_open None is = absurd (both_ways (is_none {T = List Opened} None) is refl)
some_open (Some s) is = (s, refl)

is_none-none : (o : Option (List Opened)) → is_none o ≡ true → o ≡ None
is_none-none None is = refl
is_none-none (Some s) is = absurd (both_ways (is_none (Some s)) refl is)

open_before : (text : List ℕ) (i : ℕ) → ((k : ℕ) → k < i → stops_by text k ≡ false) → is_none (unclosed (take i text)) ≡ false
open_before text zero fine = refl
open_before text (suc i) fine = let e : suc i ≡ i + 1 = omega arith in ap (λ n. is_none (unclosed (take n text))) e ∙ fine i (omega arith)

open_whole : (text : List ℕ) → ((k : ℕ) → k < length text → stops_by text k ≡ false) → is_none (unclosed text) ≡ false
open_whole text fine = sym (ap (λ t. is_none (unclosed t)) (take_all (length text) text (omega arith))) ∙ open_before text (length text) fine

-- what the validator tells, in its two cases
pub told : (text : List ℕ) → ((i : ℕ) × (s : List Opened) × StopsAt text i s) ⊎ ((s : List Opened) × ReadsTo text s)
told text =
    ⊎_elim
    (λ none. let whole = some_open (unclosed text) (open_whole text none) in
    inr (whole.0, (whole.1, sym (ap (λ o. fault_of o (unclosed text)) (first_none (stops_by text) 0 (length text) (λ k low high. none k high))) ∙ ap (fault_of None) whole.1)))
    (λ found. let before = some_open (unclosed (take found.0 text)) (open_before text found.0 found.3) in
    inl (
      found.0,
      before.0,
      (
        found.1,
        before.1,
        is_none-none (unclosed (take (found.0 + 1) text)) found.2,
        sym (ap (λ o. fault_of o (unclosed text)) (first_found (stops_by text) 0 (length text) found.0 (omega arith) found.1 found.2 (λ k low high. found.3 k high))),
      ),
    ))
    (least (stops_by text) (length text))

-- what has stopped stays so
pub stopped_front : (front rest : List ℕ) (s : List Opened) → unclosed front ≡ None → unclosed (front ++ rest) ≡ Some s → ⊥
stopped_front front rest s stopped reads =
    none-some s (sym (left_open-append 0 (Some []) front rest ∙ ap (λ o. left_open (0 + length front) o rest) stopped ∙ none_stays (0 + length front) rest) ∙ reads)

pub balanced_from : (text : List ℕ) → bracket_fault text ≡ None → IsBalanced text
balanced_from text none =
    ⊎_elim (λ t. absurd (none-some t.0 (sym none ∙ t.2.3)))
    (λ t. read_balanced t.0 t.1.0 (sym t.1.1 ∙ none))
    (told text)
  where
    read_balanced : (s : List Opened) → unclosed text ≡ Some s → fault_of None (Some s) ≡ None → IsBalanced text
    read_balanced [] reads fault = is_balanced text reads
    read_balanced (last ∷ s) reads fault = absurd (none-some last.place (sym fault))

pub none_from : (text : List ℕ) → IsBalanced text → bracket_fault text ≡ None
none_from text is =
    ⊎_elim
    (λ t. absurd (stopped_front (take (t.0 + 1) text) (drop (t.0 + 1) text) [] t.2.2 (ap unclosed (take-append-drop (t.0 + 1) text) ∙ nothing_open text is)))
    (λ t. t.1.1 ∙ sym (ap (fault_of None) t.1.0) ∙ ap (fault_of None) (nothing_open text is))
    (told text)

-- what stands open was opened in the text, where it says
abbrev WasOpened : List ℕ → Opened → Type 0
WasOpened whole opened = (is_opening opened.bracket ≡ true) × (get_or whole opened.place 0 ≡ opened.bracket)

-- so of each, or a closing bracket matched none
abbrev AllOpened : List ℕ → Option (List Opened) → Type 0
AllOpened whole None = Unit {0}
AllOpened whole (Some s) = All (WasOpened whole) s

closed_opened : (whole : List ℕ) (c : ℕ) (s : List Opened) → All (WasOpened whole) s → AllOpened whole (closed_by c s)
closed_opened whole c [] were = tt
closed_opened whole c (last ∷ s) were = cond_both (are_pair last.bracket c) (Some s) None (AllOpened whole) (λ are. All-tail (WasOpened whole) last s were) (λ not_pair. tt)

step_opened : (whole : List ℕ) (n c : ℕ) (opened : Option (List Opened)) → get_or whole n 0 ≡ c → AllOpened whole opened → AllOpened whole (after_character opened (n, c))
step_opened whole n c None is were = tt
step_opened whole n c (Some s) is were =
    let last : Opened = record { place = n; bracket = c } in
    cond_both (is_opening c) (Some (last ∷ s)) (cond (is_closing c) (closed_by c s) (Some s)) (AllOpened whole)
    (λ opening. All-cons (WasOpened whole) last s (opening, is) were)
    (λ other. cond_both (is_closing c) (closed_by c s) (Some s) (AllOpened whole) (λ closing. closed_opened whole c s were) (λ none. were))

all_opened : (whole front text : List ℕ) (n : ℕ) (opened : Option (List Opened)) → whole ≡ front ++ text → length front ≡ n
    → AllOpened whole opened → AllOpened whole (left_open n opened text)
all_opened whole front [] n opened is size were = were
all_opened whole front (c ∷ cs) n opened is size were =
    let here : get_or whole n 0 ≡ c = ap (λ t. get_or t n 0) is ∙ get_or_at front c cs 0 n size in
    all_opened whole (front ++ c ∷ []) cs (n + 1) (after_character opened (n, c)) (is ∙ sym (append_assoc front (c ∷ []) cs))
    (length_push front c ∙ ap (λ k. k + 1) size) (step_opened whole n c opened here were)

were_opened : (text : List ℕ) (s : List Opened) → unclosed text ≡ Some s → All (WasOpened text) s
were_opened text s reads = subst (AllOpened text) reads (all_opened text [] text 0 (Some []) refl refl (All-nil (WasOpened text)))

-- the closing brackets that what stands open lacks
abbrev partners : List Opened → List ℕ
partners s = map (λ opened. partner opened.bracket) s

partners_close : (whole : List ℕ) (s : List Opened) (n : ℕ) → All (WasOpened whole) s → left_open n (Some s) (partners s) ≡ Some []
partners_close whole [] n were = refl
partners_close whole (last ∷ s) n were =
    ap (λ o. left_open (n + 1) o (partners s)) (closes_pair n (partner last.bracket) last s (partner_pairs last.bracket (All-head (WasOpened whole) last s were).0))
    ∙ partners_close whole s (n + 1) (All-tail (WasOpened whole) last s were)

pub can_be_balanced : (front : List ℕ) (s : List Opened) → unclosed front ≡ Some s → CanBeBalanced front
can_be_balanced front s reads = (
  partners s,
  is_balanced (front ++ partners s)
      (left_open-append 0 (Some []) front (partners s) ∙ ap (λ o. left_open (0 + length front) o (partners s)) reads
      ∙ partners_close front s (0 + length front) (were_opened front s reads)),
)

-- a fault that is told at the end is at no closing bracket
closing_not_last : (text : List ℕ) (place : ℕ) (s : List Opened) → unclosed text ≡ Some s → fault_of None (Some s) ≡ Some place
    → is_closing (get_or text place 0) ≡ true → ⊥
closing_not_last text place [] reads fault closing = none-some place fault
closing_not_last text place (last ∷ s) reads fault closing =
    let was = All-head (WasOpened text) last s (were_opened text (last ∷ s) reads) in
    let e : last.place ≡ place = same_Some last.place place fault in
    both_ways (is_closing (get_or text place 0))
    (ap (λ k. is_closing (get_or text k 0)) (sym e) ∙ ap is_closing was.1 ∙ opening_closes_not last.bracket was.0) closing

-- no balanced text begins with what is read up to the fault, and one begins with what stands before it
abbrev pub EndsBalance : List ℕ → ℕ → Type 0
EndsBalance text place = CanBeBalanced (take place text) × (CanBeBalanced (take (place + 1) text) → ⊥)

stops_balance : (text : List ℕ) (i : ℕ) (s : List Opened) → StopsAt text i s → EndsBalance text i
stops_balance text i s stops = (
  can_be_balanced (take i text) s stops.1,
  λ made. stopped_front (take (i + 1) text) made.0 [] stops.2 (nothing_open (take (i + 1) text ++ made.0) made.1),
)

pub ends_balance : (text : List ℕ) (place : ℕ) → bracket_fault text ≡ Some place → is_closing (get_or text place 0) ≡ true → EndsBalance text place
ends_balance text place fault closing =
    ⊎_elim (λ t. subst (EndsBalance text) (same_Some t.0 place (sym t.2.3 ∙ fault)) (stops_balance text t.0 t.1 t.2))
    (λ t. absurd (closing_not_last text place t.0 t.1.0 (sym t.1.1 ∙ fault) closing))
    (told text)
