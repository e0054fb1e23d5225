-- What a contract sees of letters: lists of them, by their sender.
use Rattle.std.specs.Prelude.{◌≡◌, ℕ, ◌==◌, Bool, true, false, List, [], ◌∷◌, ◌++◌, IsTrue}
use Rattle.std.specs.List.{list_any}
use Rattle.job_desk.specs.declared.letters.Letter.{Letter}
use Rattle.job_desk.specs.declared.letters.Letter.TheVariants.{Piece, InputEnd, Gone}
use Rattle.job_desk.specs.declared.letters.Mail.{Mail}

-- a letter before others, where it is of the sender that is asked for
abbrev pub kept : Bool → Letter → List Letter → List Letter
kept true letter letters = letter ∷ letters
kept false letter letters = letters

-- the letters of the sender with this number, in order
abbrev pub letters_of : ℕ → List Mail → List Letter
letters_of number [] = []
letters_of number (mail ∷ mails) = kept (mail.sender == number) mail.letter (letters_of number mails)

abbrev pub is_gone : Letter → Bool
is_gone Gone = true
is_gone _ = false

-- the last letter of a sender is among them
abbrev pub HasGone : List Letter → Type 0
HasGone letters = IsTrue (list_any is_gone letters)

-- the last letter of a sender is not among them
abbrev pub IsOpen : List Letter → Type 0
IsOpen letters = list_any is_gone letters ≡ false

-- nothing comes behind the last letter of a sender
abbrev pub EndsAtGone : List Letter → Type 0
EndsAtGone [] = Unit {0}
EndsAtGone (letter ∷ letters) = (is_gone letter ≡ true → letters ≡ []) × EndsAtGone letters

-- a list is the beginning of another
abbrev pub IsStart : {A : Type 0} → List A → List A → Type 0
IsStart {A} start whole = (rest : List A) × (start ++ rest ≡ whole)

abbrev pub is_input_end : Letter → Bool
is_input_end InputEnd = true
is_input_end _ = false

-- the end of the input is among them
abbrev pub HasInputEnd : List Letter → Type 0
HasInputEnd letters = IsTrue (list_any is_input_end letters)

-- the pieces of a letter and those behind it, up to the end of the input
abbrev pub with_pieces : Letter → List (List ℕ) → List (List ℕ)
with_pieces (Piece bytes) behind = bytes ∷ behind
with_pieces InputEnd behind = []
with_pieces _ behind = behind

-- the pieces before the first end of the input
abbrev pub pieces_before_end : List Letter → List (List ℕ)
pieces_before_end [] = []
pieces_before_end (letter ∷ letters) = with_pieces letter (pieces_before_end letters)
