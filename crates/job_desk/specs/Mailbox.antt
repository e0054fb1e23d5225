-- The rule of the mailbox, over the mails in it and over what each pass knows. The end has the pass 0, and the sender with the number n the pass n + 1.
use Rattle.std.specs.Prelude.{◌≡◌, ℕ, ◌+◌, ◌≤◌, List, [], ◌∷◌, ◌++◌, length, Some, IfSome}
use mathlib.Core.Option.{some}
use lib.ListN.{get_elem?}
use Rattle.job_desk.specs.declared.letters.Letter.{Letter}
use Rattle.job_desk.specs.declared.letters.Mail.{Mail}
use Rattle.job_desk.specs.declared.views.View.{View}
use Rattle.job_desk.specs.declared.views.View.TheVariants.{End, Sender, Spent}
use Rattle.job_desk.specs.Letters.{letters_of}

-- the sender met last, by its number and what it sent: it sent all that is there of it, and its pass is used up
abbrev pub IsMet : List Mail → List View → ℕ × List Letter → Type 0
IsMet all views sender = (letters_of sender.0 all ≡ sender.1) × ((view : View) → get_elem? views (sender.0 + 1) ≡ some view → view ≡ Spent)

-- what a pass knows is so, where `got` was taken, and `all` are those mails and the ones in the mailbox
abbrev pub Fits : List Mail → List Mail → List View → ℕ → View → Type 0
Fits all got views pass (End made taken last) =
    (pass ≡ 0) × (taken ≡ got) × (length views ≡ made + 1) × ((number : ℕ) → made ≤ number → letters_of number all ≡ []) × IfSome last (IsMet all views)
Fits all got views pass (Sender number sent) = (pass ≡ number + 1) × (letters_of number all ≡ sent)
Fits all got views pass Spent = Unit {0}

-- of each sender: what it sent is what was taken of it followed by what the mailbox holds of it, in order
abbrev pub Delivers : List Mail → List View → Type 0
Delivers items views = (got : List Mail) × ((pass : ℕ) (view : View) → get_elem? views pass ≡ some view → Fits (got ++ items) got views pass view)

-- the end with one more sender
abbrev pub cut : View → View
cut (End made taken last) = End (made + 1) taken last
cut (Sender number sent) = Sender number sent
cut Spent = Spent

-- the sender that the end makes next
abbrev pub new_view : View → View
new_view (End made taken last) = Sender made []
new_view (Sender number sent) = Spent
new_view Spent = Spent

-- the end once it met a sender
abbrev pub met : View → View → View
met (End made taken last) (Sender number sent) = End made taken (Some (number, sent))
met (End made taken last) (End other mails others) = End made taken last
met (End made taken last) Spent = End made taken last
met (Sender number sent) other = Sender number sent
met Spent other = Spent

-- the sender once it sent a letter
abbrev pub sent_one : View → Letter → View
sent_one (Sender number sent) letter = Sender number (sent ++ letter ∷ [])
sent_one (End made taken last) letter = End made taken last
sent_one Spent letter = Spent

-- the end once it took a mail
abbrev pub took_one : View → Mail → View
took_one (End made taken last) mail = End made (taken ++ mail ∷ []) last
took_one (Sender number sent) mail = Sender number sent
took_one Spent mail = Spent

-- the sender met last sent what was taken of it and then what the mailbox holds of it
abbrev pub Compares : View → List Mail → Type 0
Compares (End made taken last) items = IfSome last (λ sender. letters_of sender.0 (taken ++ items) ≡ sender.1)
Compares (Sender number sent) items = Unit {0}
Compares Spent items = Unit {0}

-- what a sender's pass knows that it sent
abbrev pub sent_of : View → List Letter
sent_of (End made taken last) = []
sent_of (Sender number sent) = sent
sent_of Spent = []

-- what the end's pass knows that it took
abbrev pub taken_of : View → List Mail
taken_of (End made taken last) = taken
taken_of (Sender number sent) = []
taken_of Spent = []

-- the pass is the end's
abbrev pub IsEnd : View → Type 0
IsEnd (End made taken last) = Unit {0}
IsEnd (Sender number sent) = ⊥
IsEnd Spent = ⊥
