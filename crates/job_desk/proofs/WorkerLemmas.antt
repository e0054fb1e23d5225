-- What one more request, and one more batch, make of what a worker did.
use Rattle.std.proofs.Common.{◌≡◌, ℕ, ◌+◌, ◌<◌, min, Bool, true, false, cond, ◌||◌, nat_lt, List, [], ◌∷◌, ◌++◌, length, Option, None, Some, refl, sym, ◌∙◌, ap, subst, inl, inr, arith, append_assoc, append-nil, true≢false, length-append}
use Prim.Native.Nat.{zero, suc}
use Rattle.requests.specs.Batches.{BatchFields, batch_at, numbered}
use Rattle.std.proofs.lemmas.Bool.Decides.{nat_tests}
use Rattle.std.proofs.lemmas.List.{map-append}
use Rattle.std.proofs.lemmas.List.Folds.{list_any-append}
use Rattle.std.specs.List.{list_any}
use Rattle.requests.specs.declared.items.Items.{Items}
use Rattle.requests.specs.declared.items.Items.TheVariants.{Completions, Suggestion, Verdict}
use Rattle.requests.specs.Whole.{answer_to}
use Rattle.requests.specs.Batching.{batch_count, count_in, is_last}
use Rattle.job_desk.specs.Letters.{is_gone, IsOpen}
use Rattle.job_desk.specs.Ends.{SenderFields, sends_more}
use Rattle.job_desk.specs.Posts.{Seen, told_more, after_given, after_dead, asked_more}
use Rattle.job_desk.specs.Gates.{Passing, passings, after_passing}
use Rattle.requests.specs.Requests.{RequestFields}
use Rattle.job_desk.specs.Answering.{Share, AtWork, at_work, answer_letter, requests_of, answers, all_answers, all_passings, Ran, Gave, Ended, Answered, Served}
use Rattle.job_desk.specs.declared.letters.Letter.{Letter}

told_twice : {A : Type 0} → (told : Option (List A)) (xs ys : List A) → told_more (told_more told xs) ys ≡ told_more told (xs ++ ys)
told_twice None xs ys = refl
told_twice (Some told) xs ys = ap Some (append_assoc told xs ys)

told_none : {A : Type 0} → (told : Option (List A)) → told ≡ told_more told []
told_none None = refl
told_none (Some told) = ap Some (sym (append-nil told))

sent_twice : (s : SenderFields) (xs ys : List Letter) → sends_more (sends_more s xs) ys ≡ sends_more s (xs ++ ys)
sent_twice s xs ys = ap (λ (l : List Letter). record s { sent = l }) (append_assoc s.sent xs ys)

-- one more request behind the others
ran_snoc : (xs : List Share) (dead more : List ℕ) (s : Share) (failed : Bool) → Ran xs dead false → Ran (s ∷ []) more failed → Ran (xs ++ s ∷ []) (dead ++ more) failed
ran_snoc [] dead more s failed ran last = subst (λ (d : List ℕ). Ran (s ∷ []) (d ++ more) failed) (sym ran.0) last
ran_snoc (x ∷ xs) dead more s failed (inl (whole, passed, ran)) last = inl (whole, passed, ran_snoc xs dead more s failed ran last)
ran_snoc (x ∷ xs) dead more s failed (inr (inl (rest, cut, passed, is, ran))) last =
    inr (inl (rest ++ more, cut, passed, ap (λ (d : List ℕ). d ++ more) is, ran_snoc xs rest more s failed ran last))
ran_snoc (x ∷ xs) dead more s failed (inr (inr (cut, passed, not_so, none, nil))) last = absurd (true≢false (sym not_so))

answers_snoc : (xs : List Share) (s : Share) → all_answers (xs ++ s ∷ []) ≡ all_answers xs ++ answers s.request s.count
answers_snoc [] s = append-nil (answers s.request s.count)
answers_snoc (x ∷ xs) s =
    ap (λ (l : List Letter). answers x.request x.count ++ l) (answers_snoc xs s) ∙ sym (append_assoc (answers x.request x.count) (all_answers xs) (answers s.request s.count))

passings_snoc : (xs : List Share) (s : Share) → all_passings (xs ++ s ∷ []) ≡ all_passings xs ++ passings s.request s.passed
passings_snoc [] s = append-nil (passings s.request s.passed)
passings_snoc (x ∷ xs) s =
    ap (λ (l : List Passing). passings x.request x.passed ++ l) (passings_snoc xs s)
    ∙ sym (append_assoc (passings x.request x.passed) (all_passings xs) (passings s.request s.passed))

requests_snoc : (xs : List Share) (s : Share) → requests_of (xs ++ s ∷ []) ≡ requests_of xs ++ s.request ∷ []
requests_snoc xs s = map-append (λ (x : Share). x.request) xs (s ∷ [])

length-passings : (r : RequestFields) (n : ℕ) → length (passings r n) ≡ n
length-passings r zero = refl
length-passings r (suc n) = length-append (passings r n) (record { id = r.id; number = n } ∷ []) ∙ omega (arith, length-passings r n)

-- the post gave one more request, which was answered or not
gave_same : (old mid new : Seen) (requests : List RequestFields) (dead : List ℕ) (passed : List Passing) (s : Share) → Gave old mid requests dead passed
    → new ≡ asked_more (after_given mid s.request) s.passed → Gave old new (requests ++ s.request ∷ []) (dead ++ []) (passed ++ passings s.request s.passed)
gave_same old mid new requests dead passed s gave is =
    let none : List ℕ = [] in
    let r = s.request in
    let P : Seen → Type 0 = λ n. Gave old n (requests ++ r ∷ []) (dead ++ []) (passed ++ passings r s.passed) in
    subst P (sym is) (record {
      taken = omega (arith, gave.taken, length-append requests (r ∷ []));
      asked = omega (arith, gave.asked, length-append dead none, length-append passed (passings r s.passed), length-passings r s.passed);
      died = omega (arith, gave.died, length-append dead none);
      given = ap (λ (l : Option (List RequestFields)). told_more l (r ∷ [])) gave.given ∙ told_twice old.given requests (r ∷ []);
      refused = gave.refused ∙ ap (λ (l : List ℕ). told_more old.refused l) (sym (append-nil dead));
    })

gave_dead : (old mid new : Seen) (requests : List RequestFields) (dead : List ℕ) (passed : List Passing) (s : Share) → Gave old mid requests dead passed
    → new ≡ after_dead (asked_more (after_given mid s.request) (s.passed + 1)) s.request.id
    → Gave old new (requests ++ s.request ∷ []) (dead ++ s.request.id ∷ []) (passed ++ passings s.request s.passed)
gave_dead old mid new requests dead passed s gave is =
    let r = s.request in
    let P : Seen → Type 0 = λ n. Gave old n (requests ++ r ∷ []) (dead ++ r.id ∷ []) (passed ++ passings r s.passed) in
    subst P (sym is) (record {
      taken = omega (arith, gave.taken, length-append requests (r ∷ []));
      asked = omega (arith, gave.asked, length-append dead (r.id ∷ []), length-append passed (passings r s.passed), length-passings r s.passed);
      died = omega (arith, gave.died, length-append dead (r.id ∷ []));
      given = ap (λ (l : Option (List RequestFields)). told_more l (r ∷ [])) gave.given ∙ told_twice old.given requests (r ∷ []);
      refused = ap (λ (l : Option (List ℕ)). told_more l (r.id ∷ [])) gave.refused ∙ told_twice old.refused dead (r.id ∷ []);
    })

-- how the last request ended, as what ran and what the post gave
ends : (old mid new : Seen) (requests : List RequestFields) (dead : List ℕ) (passed : List Passing) (s : Share) (failed : Bool)
    → Gave old mid requests dead passed → Ended (after_given mid s.request) new s failed
    → (more : List ℕ) × Gave old new (requests ++ s.request ∷ []) (dead ++ more) (passed ++ passings s.request s.passed) × Ran (s ∷ []) more failed
ends old mid new requests dead passed s failed gave (inl (whole, alone, is, fine)) =
    ([], gave_same old mid new requests dead passed s gave is, inl (whole, alone, (refl, fine)))
ends old mid new requests dead passed s failed gave (inr (inl (cut, alone, is, fine))) =
    (s.request.id ∷ [], gave_dead old mid new requests dead passed s gave is, inr (inl ([], cut, alone, refl, (refl, fine))))
ends old mid new requests dead passed s failed gave (inr (inr (cut, unsent, is, not_fine))) =
    ([], gave_same old mid new requests dead passed s gave is, inr (inr (cut, unsent, not_fine, refl, refl)))

-- all answers so far, and those to the last request
sends_snoc : (s t u : SenderFields) (xs : List Share) (x : Share) → t ≡ sends_more s (all_answers xs ++ []) → u ≡ sends_more t (answers x.request x.count) → u ≡ sends_more s (all_answers (xs ++ x ∷ []) ++ [])
sends_snoc s t u xs x one two =
    two ∙ (ap (λ (w : SenderFields). sends_more w (answers x.request x.count)) one
    ∙ (sent_twice s (all_answers xs ++ []) (answers x.request x.count)
    ∙ ap (λ (l : List Letter). sends_more s l)
    (ap (λ (l : List Letter). l ++ answers x.request x.count) (append-nil (all_answers xs)) ∙ (sym (answers_snoc xs x) ∙ sym (append-nil (all_answers (xs ++ x ∷ [])))))))

-- all that passed the gate so far, and what passed it for the last request
passes_snoc : (g h k : Option (List Passing)) (xs : List Share) (x : Share) → h ≡ told_more g (all_passings xs) → k ≡ told_more h (passings x.request x.passed)
    → k ≡ told_more g (all_passings (xs ++ x ∷ []))
passes_snoc g h k xs x one two =
    two ∙ ap (λ (l : Option (List Passing)). told_more l (passings x.request x.passed)) one
    ∙ told_twice g (all_passings xs) (passings x.request x.passed)
    ∙ ap (λ (l : List Passing). told_more g l) (sym (passings_snoc xs x))

-- a worker that took one more request, and answered it
pub served_one : (old mid new : AtWork) (next : Seen) (r : RequestFields) (failed : Bool)
    → Served old mid false [] → next ≡ after_given mid.post r → Answered (at_work next mid.gate mid.mail) new r failed → Served old new failed []
served_one old mid new next r failed served is answered =
    let s : Share = record { request = r; count = answered.count; passed = answered.passed } in
    let last = ends old.post mid.post new.post (requests_of served.shares) served.dead (all_passings served.shares) s failed served.gave
    (subst (λ (n : Seen). Ended n new.post s failed) is answered.ended) in
    let P : List RequestFields → List Passing → Type 0 = λ l m. Gave old.post new.post l (served.dead ++ last.0) m in
    record {
      shares = served.shares ++ s ∷ [];
      dead = served.dead ++ last.0;
      gave = subst (λ m. P (requests_of (served.shares ++ s ∷ [])) m) (sym (passings_snoc served.shares s))
          (subst (λ l. P l (all_passings served.shares ++ passings r answered.passed)) (sym (requests_snoc served.shares s)) last.1);
      gate = passes_snoc old.gate mid.gate new.gate served.shares s served.gate answered.gate;
      sent = sends_snoc old.mail mid.mail new.mail served.shares s served.sent answered.sent;
      ran = ran_snoc served.shares served.dead last.0 s failed served.ran last.2;
    }

-- a worker that took nothing
pub served_none : (old : AtWork) → Served old old false []
served_none old = record {
  shares = [];
  dead = [];
  gave = record { taken = omega arith; asked = omega arith; died = omega arith; given = told_none old.post.given; refused = told_none old.post.refused };
  gate = told_none old.gate;
  sent = ap (λ (l : List Letter). record old.mail { sent = l }) (sym (append-nil old.mail.sent));
  ran = (refl, refl);
}

-- the first ask of a post, and each further one
pub asked_next : (s : Seen) (n : ℕ) → asked_more (asked_more s n) 1 ≡ asked_more s (n + 1)
asked_next s n = ap (λ (count : ℕ). record s { asked = count }) (omega arith)

-- one more that passed the gate
pub passes_next : (g h k : Option (List Passing)) (r : RequestFields) (n : ℕ) → h ≡ told_more g (passings r n) → k ≡ after_passing true h r.id n
    → k ≡ told_more g (passings r (n + 1))
passes_next g h k r n one two =
    let next : suc n ≡ n + 1 = omega arith in
    two ∙ ap (λ (l : Option (List Passing)). told_more l (record { id = r.id; number = n } ∷ [])) one
    ∙ told_twice g (passings r n) (record { id = r.id; number = n } ∷ [])
    ∙ ap (λ (m : ℕ). told_more g (passings r m)) next

-- nothing passed, nothing was sent
pub passes_none : (g : Option (List Passing)) → g ≡ told_more g []
passes_none g = told_none g

pub sends_none : (s : SenderFields) → s ≡ sends_more s []
sends_none s = ap (λ (l : List Letter). record s { sent = l }) (sym (append-nil s.sent))

-- one batch more
pub answers_more : (s t u : SenderFields) (r : RequestFields) (n : ℕ) → t ≡ sends_more s (answers r n) → u ≡ sends_more t (answer_letter r n ∷ []) → u ≡ sends_more s (answers r (n + 1))
answers_more s t u r n one two =
    let next : suc n ≡ n + 1 = omega arith in
    two ∙ ap (λ (w : SenderFields). sends_more w (answer_letter r n ∷ [])) one
    ∙ sent_twice s (answers r n) (answer_letter r n ∷ [])
    ∙ ap (λ (m : ℕ). sends_more s (answers r m)) next

-- whether it is the last one
pub last_whole : (r : RequestFields) (n : ℕ) (last : Bool) → last ≡ is_last r n → last ≡ true → n + 1 ≡ batch_count r
last_whole r n last is so = let e = sym is ∙ so in grind (arith, nat_tests)

pub more_left : (r : RequestFields) (n : ℕ) (last : Bool) → last ≡ is_last r n → last ≡ false → n < batch_count r → n + 1 < batch_count r
more_left r n last is not_so within = let e = sym is ∙ not_so in grind (arith, nat_tests)

-- there is some batch
some_in : (answer : Items) → 0 < count_in answer
some_in (Completions items) = omega arith
some_in (Suggestion text) = omega arith
some_in (Verdict verdict) = omega arith

pub some_batch : (r : RequestFields) → 0 < batch_count r
some_batch r = some_in (answer_to r)

-- an answer that gave one more batch
pub given_next : (r : RequestFields) (n given count : ℕ) → given ≡ n → count ≡ batch_count r → n < batch_count r → min (given + 1) count ≡ n + 1
given_next r n given count is same within = omega (arith, is, same, within)
