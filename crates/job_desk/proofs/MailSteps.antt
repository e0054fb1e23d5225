-- Each step keeps the rule of the mailbox.
use Rattle.std.proofs.Common.{◌≡◌, ◌≢◌, ℕ, zero, suc, ◌+◌, ◌<◌, ◌⊎◌, List, [], ◌∷◌, ◌++◌, length, set, Option, None, Some, sym, refl, ap, ◌∙◌, subst, inl, inr, ⊎_elim, append_assoc, arith}
use Rattle.std.proofs.lemmas.List.{length-set, length-append}
use Rattle.std.specs.Prelude.{IfSome}
use mathlib.Core.Option.{some, some-injective, some-ne-none}
use lib.ListN.{get_elem?}
use Rattle.atomic_table.proofs.Lists.{at_set, set_else}
use Rattle.crossbeam_channel.specs.Fifo.{Pushes, Pops, Forks, Merges, Learns}
use Rattle.job_desk.specs.declared.letters.Letter.{Letter}
use Rattle.job_desk.specs.declared.letters.Mail.{Mail}
use Rattle.job_desk.specs.declared.views.View.{View}
use Rattle.job_desk.specs.declared.views.View.TheVariants.{End, Sender, Spent}
use Rattle.job_desk.specs.Letters.{letters_of}
use Rattle.job_desk.specs.Mailbox.{IsMet, Fits, Delivers, cut, new_view, met, sent_one, took_one, Compares, sent_of, taken_of, IsEnd}
use Rattle.job_desk.proofs.LetterLists.{letters-append, same-last, other-last}

-- the place of an element lies within the list
inside : {A : Type 0} (l : List A) (i : ℕ) (a : A) → get_elem? l i ≡ some a → i < length l
inside [] i a e = absurd (some-ne-none a (sym e))
inside (x ∷ xs) zero a e = omega arith
inside (x ∷ xs) (suc i) a e = omega (arith, inside xs i a e)

-- an element of a list that grew is an old one, or the new one in the last place
at_grown : {A : Type 0} (l : List A) (a b : A) (j : ℕ) → get_elem? (l ++ a ∷ []) j ≡ some b → (get_elem? l j ≡ some b) ⊎ ((j ≡ length l) × (a ≡ b))
at_grown [] a b zero e = inr (refl, some-injective a b e)
at_grown [] a b (suc j) e = absurd (some-ne-none b (sym e))
at_grown (x ∷ xs) a b zero e = inl e
at_grown (x ∷ xs) a b (suc j) e = ⊎_elim (λ t. inl t) (λ t. inr (ap suc t.0, t.1)) (at_grown xs a b j e)

-- F holds of each pass and its view
abbrev Each : (ℕ → View → Type 0) → List View → Type 0
Each F views = (pass : ℕ) (view : View) → get_elem? views pass ≡ some view → F pass view

moved : (F : ℕ → View → Type 0) (i j : ℕ) (v w : View) → j ≡ i → v ≡ w → F i v → F j w
moved F i j v w same is here = let P : ℕ × View → Type 0 = λ y. F y.0 y.1 in subst P (λ k. (sym same k, is k)) here

-- where the view of one pass changes
each_set : (F : ℕ → View → Type 0) (views : List View) (pass : ℕ) (w : View) → F pass w
    → ((j : ℕ) (u : View) → j ≢ pass → get_elem? views j ≡ some u → F j u) → Each F (set views pass w)
each_set F views pass w here elsewhere j u e = ⊎_elim (λ x. moved F pass j w u x.0 x.1 here) (λ x. elsewhere j u x.0 x.1) (at_set views pass j w u e)

-- where a pass is added
each_grown : (F : ℕ → View → Type 0) (views : List View) (w : View) → F (length views) w → Each F views → Each F (views ++ w ∷ [])
each_grown F views w here elsewhere j u e = ⊎_elim (λ x. elsewhere j u x) (λ x. moved F (length views) j w u x.0 x.1 here) (at_grown views w u j e)

-- what a pass other than the end's knows rests on all mails alone
others : (all got got' : List Mail) (views views' : List View) (j pass : ℕ) (u : View) → pass ≡ 0 → j ≢ pass → Fits all got views j u → Fits all got' views' j u
others all got got' views views' j pass (End made taken last) zeroth other fits = absurd (other (fits.0 ∙ sym zeroth))
others all got got' views views' j pass (Sender number sent) zeroth other fits = fits
others all got got' views views' j pass Spent zeroth other fits = tt

-- the sender met last stays met where the pass of another one changes
met_stays : (all all' : List Mail) (views : List View) (pass number : ℕ) (sent : List Letter) (w : View) (last : Option (ℕ × List Letter))
    → get_elem? views pass ≡ some (Sender number sent) → pass ≡ number + 1
    → ((k : ℕ) → k ≢ number → letters_of k all' ≡ letters_of k all)
    → IfSome last (IsMet all views) → IfSome last (IsMet all' (set views pass w))
met_stays all all' views pass number sent w None at seat same h = tt
met_stays all all' views pass number sent w (Some (k, letters)) at seat same h =
    let P : ℕ → Type 0 = λ n. get_elem? views n ≡ some (Sender number sent) in
    let apart : k ≢ number = λ e. let spent = h.1 (Sender number sent) (subst P (seat ∙ ap (λ n. n + 1) (sym e)) at) in cc in
    let away : k + 1 ≢ pass = λ e. apart (omega arith) in
    (same k apart ∙ h.0, λ v e. h.1 v (sym (set_else views pass (k + 1) w away) ∙ e))

-- and where the end's own pass changes
met_kept : (all : List Mail) (views : List View) (pass : ℕ) (w : View) (last : Option (ℕ × List Letter)) → pass ≡ 0
    → IfSome last (IsMet all views) → IfSome last (IsMet all (set views pass w))
met_kept all views pass w None zeroth h = tt
met_kept all views pass w (Some (k, letters)) zeroth h =
    let away : k + 1 ≢ pass = λ e. absurd (omega arith) in
    (h.0, λ v e. h.1 v (sym (set_else views pass (k + 1) w away) ∙ e))

-- what another pass knows is so once a sender sent a mail
push_other : (all got : List Mail) (views : List View) (pass number : ℕ) (sent : List Letter) (mail : Mail) (w : View) (j : ℕ) (u : View)
    → mail.sender ≡ number → get_elem? views pass ≡ some (Sender number sent) → pass ≡ number + 1 → j ≢ pass
    → Fits all got views j u → Fits (all ++ mail ∷ []) got (set views pass w) j u
push_other all got views pass number sent mail w j (End made taken last) is at seat other fits =
    let within = inside views pass (Sender number sent) at in
    let same : (k : ℕ) → k ≢ number → letters_of k (all ++ mail ∷ []) ≡ letters_of k all = λ k apart. other-last k mail all (λ e. apart (sym e ∙ is)) in (
      fits.0,
      fits.1,
      length-set views pass w ∙ fits.2,
      (λ k late. same k (λ e. let long = fits.2 in absurd (omega arith)) ∙ fits.3 k late),
      met_stays all (all ++ mail ∷ []) views pass number sent w last at seat same fits.4,
    )
push_other all got views pass number sent mail w j (Sender k letters) is at seat other fits =
    (fits.0, other-last k mail all (λ e. other (fits.0 ∙ ap (λ n. n + 1) (sym e ∙ is) ∙ sym seat)) ∙ fits.1)
push_other all got views pass number sent mail w j Spent is at seat other fits = tt

-- a sender sends a mail
push : (n pass number : ℕ) (sent : List Letter) (mail : Mail) → mail.sender ≡ number
    → Pushes Delivers n pass (Sender number sent) mail (λ w. w ≡ Sender number (sent ++ mail.letter ∷ []))
push n pass number sent mail is items views room h at =
    let w : View = Sender number (sent ++ mail.letter ∷ []) in
    let got = h.0 in
    let all = got ++ items in
    let mine = h.1 pass (Sender number sent) at in
    let F : ℕ → View → Type 0 = Fits (all ++ mail ∷ []) got (set views pass w) in
    let here : F pass w = (mine.0, same-last number mail all is ∙ ap (λ l. l ++ mail.letter ∷ []) mine.1) in
    let now = each_set F views pass w here (λ j u other e. push_other all got views pass number sent mail w j u is at mine.0 other (h.1 j u e)) in
    let P : List Mail → Type 0 = λ l. Each (Fits l got (set views pass w)) (set views pass w) in
    (w, (got, subst P (append_assoc got items (mail ∷ [])) now), refl)

-- the end takes a mail
pop : (pass made : ℕ) (taken : List Mail) (last : Option (ℕ × List Letter))
    → Pops Delivers pass (End made taken last) (λ mail w. w ≡ End made (taken ++ mail ∷ []) last)
pop pass made taken last mail items views h at =
    let w : View = End made (taken ++ mail ∷ []) last in
    let got = h.0 in
    let all = got ++ mail ∷ items in
    let more = got ++ mail ∷ [] in
    let mine = h.1 pass (End made taken last) at in
    let long : length (set views pass w) ≡ made + 1 = length-set views pass w ∙ mine.2 in
    let F : ℕ → View → Type 0 = Fits all more (set views pass w) in
    let here : F pass w = (mine.0, ap (λ l. l ++ mail ∷ []) mine.1, long, mine.3, met_kept all views pass w last mine.0 mine.4) in
    let now = each_set F views pass w here (λ j u other e. others all got more views (set views pass w) j pass u mine.0 other (h.1 j u e)) in
    let P : List Mail → Type 0 = λ l. Each (Fits l more (set views pass w)) (set views pass w) in
    (w, (more, subst P (sym (append_assoc got (mail ∷ []) items)) now), refl)

-- the end makes one more sender
fork : (pass made : ℕ) (taken : List Mail) → Forks Delivers pass (End made taken None) (End (made + 1) taken None) (Sender made [])
fork pass made taken items views h at =
    let w : View = End (made + 1) taken None in
    let more : View = Sender made [] in
    let changed = set views pass w in
    let got = h.0 in
    let all = got ++ items in
    let mine = h.1 pass (End made taken None) at in
    let long : length changed ≡ made + 1 = length-set views pass w ∙ mine.2 in
    let longer : length (changed ++ more ∷ []) ≡ made + 1 + 1 = length-append changed (more ∷ []) ∙ ap (λ n. n + 1) long in
    let F : ℕ → View → Type 0 = Fits all got (changed ++ more ∷ []) in
    let here : F pass w = (mine.0, mine.1, longer, (λ k late. mine.3 k (omega arith)), tt) in
    let before = each_set F views pass w here (λ j u other e. others all got got views (changed ++ more ∷ []) j pass u mine.0 other (h.1 j u e)) in
    (got, each_grown F changed more (long, mine.3 made (omega arith)) before)

-- the end takes in a sender
merge : (pass made : ℕ) (taken : List Mail) (last : Option (ℕ × List Letter)) (other number : ℕ) (sent : List Letter)
    → Merges Delivers pass (End made taken last) other (Sender number sent) (End made taken (Some (number, sent))) Spent
merge pass made taken last other number sent items views h at apart at' =
    let w : View = End made taken (Some (number, sent)) in
    let once = set views pass w in
    let twice = set once other Spent in
    let got = h.0 in
    let all = got ++ items in
    let mine = h.1 pass (End made taken last) at in
    let theirs = h.1 other (Sender number sent) (sym (set_else views pass other w apart) ∙ at') in
    let spent = each_set (λ j u. j ≡ number + 1 → u ≡ Spent) once other Spent (λ e. refl) (λ j u far e is. absurd (far (is ∙ sym theirs.0))) in
    let long : length twice ≡ made + 1 = length-set once other Spent ∙ length-set views pass w ∙ mine.2 in
    let F : ℕ → View → Type 0 = Fits all got twice in
    let here : F pass w = (mine.0, mine.1, long, mine.3, (theirs.1, λ v e. spent (number + 1) v e refl)) in
    let before = each_set F views pass w here (λ j u far e. others all got got views twice j pass u mine.0 far (h.1 j u e)) in
    (got, each_set F once other Spent tt (λ j u far e. before j u e))

-- the end compares what it took with what the sender that it met last sent
learn : (pass made : ℕ) (taken : List Mail) (number : ℕ) (sent : List Letter)
    → Learns Delivers pass (End made taken (Some (number, sent))) (λ items. letters_of number (taken ++ items) ≡ sent)
learn pass made taken number sent items views h at =
    let mine = h.1 pass (End made taken (Some (number, sent))) at in
    ap (λ l. letters_of number (l ++ items)) mine.1 ∙ mine.4.0

-- a sender that knows its number sends a mail
pub sends : (n pass : ℕ) (v : View) (mail : Mail) → v ≡ Sender mail.sender (sent_of v)
    → Pushes Delivers n pass v mail (λ w. w ≡ sent_one v mail.letter) × Learns Delivers pass v (λ items. Unit {0})
sends n pass v mail is =
    let P : View → Type 0 = λ u. Pushes Delivers n pass u mail (λ w. w ≡ sent_one u mail.letter) in
    (subst P (sym is) (push n pass mail.sender (sent_of v) mail refl), λ items views h at. tt)

-- the end takes a mail
pub takes : (pass : ℕ) (v : View) → IsEnd v → Pops Delivers pass v (λ mail w. w ≡ took_one v mail) × Learns Delivers pass v (λ items. Unit {0})
takes pass (End made taken last) is = (pop pass made taken last, λ items views h at. tt)
takes pass (Sender number sent) is = absurd is
takes pass Spent is = absurd is

-- the end that knows how many senders it made makes one more
pub forks : (pass made : ℕ) (v : View) → v ≡ End made [] None → Forks Delivers pass v (cut v) (new_view v)
forks pass made v is = let P : View → Type 0 = λ u. Forks Delivers pass u (cut u) (new_view u) in subst P (sym is) (fork pass made [])

-- the end takes in a sender that knows its number
pub merges : (pass other number : ℕ) (v u : View) → IsEnd v → u ≡ Sender number (sent_of u) → Merges Delivers pass v other u (met v u) Spent
merges pass other number (End made taken last) u is known =
    let P : View → Type 0 = λ t. Merges Delivers pass (End made taken last) other t (met (End made taken last) t) Spent in
    subst P (sym known) (merge pass made taken last other number (sent_of u))
merges pass other number (Sender k letters) u is known = absurd is
merges pass other number Spent u is known = absurd is

-- the end compares what it took with what the sender that it met last sent
pub learns : (pass : ℕ) (v : View) → Learns Delivers pass v (Compares v)
learns pass (End made taken None) items views h at = tt
learns pass (End made taken (Some (number, sent))) items views h at = learn pass made taken number sent items views h at
learns pass (Sender number sent) items views h at = tt
learns pass Spent items views h at = tt

-- what was learned of the sender that the end met
pub compared : (v u w : View) (number : ℕ) (items : List Mail) → IsEnd v → u ≡ Sender number (sent_of u) → w ≡ met v u → Compares w items
    → letters_of number (taken_of v) ++ letters_of number items ≡ sent_of u
compared (End made taken last) u w number items is known same fact =
    let P : View → Type 0 = λ t. Compares t items in
    let now : w ≡ End made taken (Some (number, sent_of u)) = same ∙ ap (met (End made taken last)) known in
    sym (letters-append number taken items) ∙ subst P now fact
compared (Sender k letters) u w number items is known same fact = absurd is
compared Spent u w number items is known same fact = absurd is

-- the sender that sent a letter knows its number still
pub sent_known : (v w : View) (number : ℕ) (letter : Letter) → v ≡ Sender number (sent_of v) → w ≡ sent_one v letter
    → (w ≡ Sender number (sent_of w)) × (sent_of w ≡ sent_of v ++ letter ∷ [])
sent_known v w number letter known is =
    let now : w ≡ Sender number (sent_of v ++ letter ∷ []) = is ∙ ap (λ u. sent_one u letter) known in
    (now ∙ ap (Sender number) (sym (ap sent_of now)), ap sent_of now)
