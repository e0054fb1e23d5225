-- What is true of lists of letters.
use Rattle.std.proofs.Common.{◌≡◌, ◌≢◌, ℕ, Bool, true, false, true≢false, ◌==◌, ◌||◌, List, [], ◌∷◌, ◌++◌, sym, refl, ap, ◌∙◌, eq-eqb, ne_eqb, subst}
use Rattle.std.proofs.lemmas.List.{append-nil}
use Rattle.std.proofs.lemmas.List.Folds.{list_any-append}
use Rattle.std.specs.Prelude.{IsTrue}
use Rattle.std.specs.List.{list_any}
use Rattle.job_desk.specs.declared.letters.Letter.{Letter}
use Rattle.job_desk.specs.declared.letters.Mail.{Mail}
use Rattle.job_desk.specs.declared.letters.Letter.TheVariants.{Piece, InputEnd, InputFault, Tick, Sized, Answer, NoMemory, Gone}
use Rattle.job_desk.specs.Letters.{kept, letters_of, is_gone, HasGone, IsOpen, EndsAtGone, is_input_end, HasInputEnd, with_pieces, pieces_before_end}

kept-append : (b : Bool) (letter : Letter) (xs ys : List Letter) → kept b letter (xs ++ ys) ≡ kept b letter xs ++ ys
kept-append true letter xs ys = refl
kept-append false letter xs ys = refl

pub letters-append : (number : ℕ) (xs ys : List Mail) → letters_of number (xs ++ ys) ≡ letters_of number xs ++ letters_of number ys
letters-append number [] ys = refl
letters-append number (x ∷ xs) ys =
    ap (kept (x.sender == number) x.letter) (letters-append number xs ys) ∙ kept-append (x.sender == number) x.letter (letters_of number xs) (letters_of number ys)

-- a mail of the sender joins its letters
pub same-last : (number : ℕ) (mail : Mail) (xs : List Mail) → mail.sender ≡ number → letters_of number (xs ++ mail ∷ []) ≡ letters_of number xs ++ mail.letter ∷ []
same-last number mail xs same =
    letters-append number xs (mail ∷ []) ∙ ap (λ (b : Bool). letters_of number xs ++ kept b mail.letter []) (eq-eqb mail.sender number same)

-- that of another does not
pub other-last : (number : ℕ) (mail : Mail) (xs : List Mail) → mail.sender ≢ number → letters_of number (xs ++ mail ∷ []) ≡ letters_of number xs
other-last number mail xs other =
    letters-append number xs (mail ∷ [])
    ∙ ap (λ (b : Bool). letters_of number xs ++ kept b mail.letter []) (ne_eqb mail.sender number other)
    ∙ append-nil (letters_of number xs)

or_false : (a b : Bool) → (a || b) ≡ false → (a ≡ false) × (b ≡ false)
or_false true b h = absurd (true≢false h)
or_false false b h = (refl, h)

-- what was open ends at one more letter
pub ends-snoc : (xs : List Letter) (letter : Letter) → IsOpen xs → EndsAtGone (xs ++ letter ∷ [])
ends-snoc [] letter open_so_far = ((λ _. refl), tt)
ends-snoc (x ∷ xs) letter open_so_far =
    let parts = or_false (is_gone x) (list_any is_gone xs) open_so_far in
    ((λ gone. absurd (true≢false (sym gone ∙ parts.0))), ends-snoc xs letter parts.1)

empty_end : (xs ys : List Letter) → xs ++ ys ≡ [] → ys ≡ []
empty_end [] ys h = h
empty_end (x ∷ xs) ys h = cc

behind_one : (b c : Bool) (xs ys : List Letter) → IsTrue (b || c) → (b ≡ true → xs ++ ys ≡ []) → (IsTrue c → ys ≡ []) → ys ≡ []
behind_one true c xs ys gone here later = empty_end xs ys (here refl)
behind_one false c xs ys gone here later = later gone

-- nothing comes behind a part with a `Gone`
pub nothing_behind : (xs ys : List Letter) → EndsAtGone (xs ++ ys) → HasGone xs → ys ≡ []
nothing_behind [] ys ends gone = cc
nothing_behind (x ∷ xs) ys ends gone = behind_one (is_gone x) (list_any is_gone xs) xs ys gone ends.0 (nothing_behind xs ys ends.1)

-- letters that begin others, which end at `Gone`, are all of them where they have a `Gone`
pub whole : (xs ys zs : List Letter) → xs ++ ys ≡ zs → EndsAtGone zs → HasGone xs → xs ≡ zs
whole xs ys zs is ends gone =
    let P : List Letter → Type 0 = λ l. EndsAtGone l in
    let none = nothing_behind xs ys (subst P (sym is) ends) gone in
    sym (append-nil xs) ∙ ap (λ (l : List Letter). xs ++ l) (sym none) ∙ is

-- open letters stay open behind open letters
pub open_append : (xs ys : List Letter) → IsOpen xs → IsOpen ys → IsOpen (xs ++ ys)
open_append xs ys front back = list_any-append is_gone xs ys ∙ ap (λ b. b || list_any is_gone ys) front ∙ back

with_end : (x : Letter) (c : Bool) (ps qs : List (List ℕ)) → IsTrue (is_input_end x || c) → (IsTrue c → ps ≡ qs) → with_pieces x ps ≡ with_pieces x qs
with_end (Piece bytes) c ps qs ends later = ap (λ l. bytes ∷ l) (later ends)
with_end InputEnd c ps qs ends later = refl
with_end InputFault c ps qs ends later = later ends
with_end (Tick moment) c ps qs ends later = later ends
with_end (Sized size) c ps qs ends later = later ends
with_end (Answer batch) c ps qs ends later = later ends
with_end NoMemory c ps qs ends later = later ends
with_end Gone c ps qs ends later = later ends

pieces_front : (xs ys : List Letter) → HasInputEnd xs → pieces_before_end xs ≡ pieces_before_end (xs ++ ys)
pieces_front [] ys ends = cc
pieces_front (x ∷ xs) ys ends = with_end x (list_any is_input_end xs) (pieces_before_end xs) (pieces_before_end (xs ++ ys)) ends (pieces_front xs ys)

-- letters that begin others have all pieces before the end of the input, where they have that end
pub pieces_whole : (xs ys zs : List Letter) → xs ++ ys ≡ zs → HasInputEnd xs → pieces_before_end xs ≡ pieces_before_end zs
pieces_whole xs ys zs is ends = pieces_front xs ys ends ∙ ap pieces_before_end is
