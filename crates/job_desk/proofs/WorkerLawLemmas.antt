-- What follows from all that a worker does in one call.
use Rattle.std.proofs.Common.{◌≡◌, ℕ, ◌+◌, ◌<◌, ◌≤◌, ◌&&◌, Bool, true, false, cond, List, [], ◌∷◌, ◌++◌, length, refl, sym, ◌∙◌, ap, subst, inl, inr, arith}
use Rattle.std.proofs.lemmas.Bool.Decides.{nat_tests}
use Rattle.std.proofs.lemmas.List.{length-map}
use Rattle.std.proofs.lemmas.List.Elements.{Contains-append_right}
use Rattle.std.proofs.lemmas.List.Folds.{list_all-append}
use Rattle.std.proofs.lemmas.List.Sums.{sum_by-append}
use Rattle.std.specs.Prelude.{count_by}
use Rattle.std.specs.List.{list_all}
use Prim.Native.Nat.{zero, suc}
use Rattle.requests.specs.Batches.{batch_at}
use Rattle.requests.specs.Batching.{batch_count, is_last}
use Rattle.requests.specs.Requests.{RequestFields}
use Rattle.job_desk.specs.Answering.{Share, AtWork, requests_of, answers, all_answers, Ran, Served}
use Rattle.job_desk.specs.WorkerLaws.{is_answer, is_last_batch, for_memory, FewCutShort, AnswersAlone, AreAnswersTo, AnswersInOrder, AreExplained, CutShortWhereDead}
use Rattle.job_desk.specs.declared.letters.Letter.{Letter}
use Rattle.job_desk.specs.declared.letters.Letter.TheVariants.{Answer}
use Rattle.job_desk.proofs.WorkerLemmas.{some_batch}

abbrev flag : Bool → ℕ
flag b = cond b 1 0

-- how many last batches are among letters
abbrev lasts : List Letter → ℕ
lasts letters = count_by is_last_batch letters

lasts_append : (xs ys : List Letter) → lasts (xs ++ ys) ≡ lasts xs + lasts ys
lasts_append xs ys = sum_by-append (λ (l : Letter). cond (is_last_batch l) 1 0) xs ys

lasts_snoc : (r : RequestFields) (n : ℕ) → lasts (answers r (suc n)) ≡ lasts (answers r n) + cond (is_last r n) 1 0
lasts_snoc r n = lasts_append (answers r n) (Answer (batch_at r n) ∷ []) ∙ omega arith

not_last : (r : RequestFields) (n : ℕ) → n + 1 < batch_count r → is_last r n ≡ false
not_last r n lt = grind (arith, nat_tests)

is_the_last : (r : RequestFields) (n : ℕ) → n + 1 ≡ batch_count r → is_last r n ≡ true
is_the_last r n eq = grind (arith, nat_tests)

-- an answer that is cut short has no last batch, and a whole one has one
lasts_cut : (r : RequestFields) (n : ℕ) → n < batch_count r → lasts (answers r n) ≡ 0
lasts_cut r zero lt = refl
lasts_cut r (suc n) lt =
    let before = lasts_cut r n (omega (arith, lt)) in
    let not : is_last r n ≡ false = not_last r n (omega (arith, lt)) in
    lasts_snoc r n ∙ omega (arith, before, ap flag not)

lasts_whole : (r : RequestFields) (n : ℕ) → suc n ≡ batch_count r → lasts (answers r (suc n)) ≡ 1
lasts_whole r n whole =
    let before = lasts_cut r n (omega (arith, whole)) in
    let is : is_last r n ≡ true = is_the_last r n (omega (arith, whole)) in
    lasts_snoc r n ∙ omega (arith, before, ap flag is)

lasts_all : (r : RequestFields) (n : ℕ) → n ≡ batch_count r → lasts (answers r n) ≡ 1
lasts_all r zero whole = absurd (omega (arith, whole, some_batch r))
lasts_all r (suc n) whole = lasts_whole r n whole

-- as many requests were answered whole as there are last batches; the others are dead, or one is where memory failed
whole_ones : (xs : List Share) (dead : List ℕ) (failed : Bool) → Ran xs dead failed → lasts (all_answers xs) ≤ length xs
whole_ones [] dead failed ran = omega arith
whole_ones (x ∷ xs) dead failed (inl (whole, alone, ran)) =
    omega (arith, lasts_append (answers x.request x.count) (all_answers xs), lasts_all x.request x.count whole, whole_ones xs dead failed ran)
whole_ones (x ∷ xs) dead failed (inr (inl (more, cut, alone, is, ran))) =
    omega (arith, lasts_append (answers x.request x.count) (all_answers xs), lasts_cut x.request x.count cut, whole_ones xs more failed ran)
whole_ones (x ∷ xs) dead failed (inr (inr (cut, unsent, failing, none, nil))) =
    omega (arith, lasts_append (answers x.request x.count) (all_answers xs), lasts_cut x.request x.count cut, ap (λ (l : List Share). lasts (all_answers l)) nil)

others : (xs : List Share) (dead : List ℕ) (failed : Bool) → Ran xs dead failed → length xs ≤ lasts (all_answers xs) + length dead + for_memory failed
others [] dead failed ran = omega arith
others (x ∷ xs) dead failed (inl (whole, alone, ran)) =
    omega (arith, lasts_append (answers x.request x.count) (all_answers xs), lasts_all x.request x.count whole, others xs dead failed ran)
others (x ∷ xs) dead failed (inr (inl (more, cut, alone, is, ran))) =
    omega (arith, lasts_append (answers x.request x.count) (all_answers xs), lasts_cut x.request x.count cut, others xs more failed ran, ap (λ (l : List ℕ). length l) is)
others (x ∷ xs) dead failed (inr (inr (cut, unsent, failing, none, nil))) =
    omega (arith, lasts_append (answers x.request x.count) (all_answers xs), lasts_cut x.request x.count cut, ap (λ (l : List Share). length l) nil, ap for_memory failing)

pub few_cut_short : (old new : AtWork) (failed : Bool) (behind : List Letter) → Served old new failed behind → FewCutShort old new failed behind
few_cut_short old new failed behind s =
    let one = whole_ones s.shares s.dead failed s.ran in
    let two = others s.shares s.dead failed s.ran in
    record {
      letters = all_answers s.shares;
      taken = length s.shares;
      died = length s.dead;
      sent = s.sent;
      taken_are = s.gave.taken ∙ ap (λ (n : ℕ). old.post.taken + n) (length-map s.shares (λ (x : Share). x.request));
      died_are = s.gave.died;
      whole = one;
      few = omega (arith, one, two);
    }

-- answers are answers
answers_are : (r : RequestFields) (n : ℕ) → list_all is_answer (answers r n) ≡ true
answers_are r zero = refl
answers_are r (suc n) =
    list_all-append is_answer (answers r n) (Answer (batch_at r n) ∷ []) ∙ ap (λ (b : Bool). b && true) (answers_are r n)

all_are : (xs : List Share) → list_all is_answer (all_answers xs) ≡ true
all_are [] = refl
all_are (x ∷ xs) =
    list_all-append is_answer (answers x.request x.count) (all_answers xs)
    ∙ (ap (λ (b : Bool). b && list_all is_answer (all_answers xs)) (answers_are x.request x.count) ∙ all_are xs)

pub answers_only : (old new : AtWork) (failed : Bool) (behind : List Letter) → Served old new failed behind → AnswersAlone old new failed behind
answers_only old new failed behind s = record { letters = all_answers s.shares; sent = s.sent; answers = all_are s.shares }

-- the answers of shares stand in order
ordered : (xs : List Share) (dead : List ℕ) (failed : Bool) → Ran xs dead failed → AreAnswersTo (requests_of xs) (all_answers xs)
ordered [] dead failed ran = refl
ordered (x ∷ xs) dead failed (inl (whole, alone, ran)) = (x.count, all_answers xs, omega (arith, whole), refl, ordered xs dead failed ran)
ordered (x ∷ xs) dead failed (inr (inl (more, cut, alone, is, ran))) = (x.count, all_answers xs, omega (arith, cut), refl, ordered xs more failed ran)
ordered (x ∷ xs) dead failed (inr (inr (cut, unsent, failing, none, nil))) =
    (x.count, all_answers xs, omega (arith, cut), refl, subst (λ (l : List Share). AreAnswersTo (requests_of l) (all_answers l)) (sym nil) refl)

pub in_order : (old new : AtWork) (failed : Bool) (behind : List Letter) → Served old new failed behind → AnswersInOrder old new failed behind
in_order old new failed behind s = record {
  requests = requests_of s.shares;
  letters = all_answers s.shares;
  given = s.gave.given;
  sent = s.sent;
  in_order = ordered s.shares s.dead failed s.ran;
}

-- more dead ones explain no less
explained_more : (id : ℕ) (dead : List ℕ) (failed : Bool) (xs : List Share) → AreExplained dead failed xs → AreExplained (id ∷ dead) failed xs
explained_more id dead failed [] h = tt
explained_more id dead failed (x ∷ xs) (inl whole, rest) = (inl whole, explained_more id dead failed xs rest)
explained_more id dead failed (x ∷ xs) (inr (inl has), rest) =
    (inr (inl (Contains-append_right (id ∷ []) dead x.request.id has)), explained_more id dead failed xs rest)
explained_more id dead failed (x ∷ xs) (inr (inr last), rest) = (inr (inr last), explained_more id dead failed xs rest)

explained : (xs : List Share) (dead : List ℕ) (failed : Bool) → Ran xs dead failed → AreExplained dead failed xs
explained [] dead failed ran = tt
explained (x ∷ xs) dead failed (inl (whole, alone, ran)) = (inl whole, explained xs dead failed ran)
explained (x ∷ xs) dead failed (inr (inl (more, cut, alone, is, ran))) =
    subst (λ (d : List ℕ). AreExplained d failed (x ∷ xs)) (sym is)
    (inr (inl (0, omega arith, refl)), explained_more x.request.id more failed xs (explained xs more failed ran))
explained (x ∷ xs) dead failed (inr (inr (cut, unsent, failing, none, nil))) =
    (inr (inr (failing, nil)), subst (λ (l : List Share). AreExplained dead failed l) (sym nil) tt)

pub where_dead : (old new : AtWork) (failed : Bool) (behind : List Letter) → Served old new failed behind → CutShortWhereDead old new failed behind
where_dead old new failed behind s = record {
  shares = s.shares;
  dead = s.dead;
  given = s.gave.given;
  refused = s.gave.refused;
  sent = s.sent;
  explained = explained s.shares s.dead failed s.ran;
}
