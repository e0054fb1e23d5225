-- How an answer is cut into batches: completions 64 by 64, a suggestion or a verdict as it is.
use Rattle.std.specs.Prelude.{ℕ, ◌+◌, ◌*◌, ◌==◌, max, Bool, List, length, take, drop}
use Rattle.std.specs.Int.{div_ceil}
use Rattle.text_doc.specs.declared.completions.Completion.{Completion}
use Rattle.requests.specs.declared.items.Items.{Items}
use Rattle.requests.specs.declared.items.Items.TheVariants.{Completions, Suggestion, Verdict}
use Rattle.requests.specs.Requests.{RequestFields}
use Rattle.requests.specs.Whole.{answer_to}

-- those of a list that stand in the batch with this number
abbrev pub batch_of : List Completion → ℕ → List Completion
batch_of items number = take 64 (drop (64 * number) items)

-- the number of batches of as many completions: as many as are needed, and one where there are none
abbrev pub needed_batches : ℕ → ℕ
needed_batches count = max (div_ceil count 64) 1

-- the number of batches of an answer
abbrev pub count_in : Items → ℕ
count_in (Completions items) = needed_batches (length items)
count_in (Suggestion text) = 1
count_in (Verdict verdict) = 1

-- what the batch with this number brings of an answer
abbrev pub part_of : Items → ℕ → Items
part_of (Completions items) number = Completions (batch_of items number)
part_of (Suggestion text) number = Suggestion text
part_of (Verdict verdict) number = Verdict verdict

-- the number of batches of the answer to a request
abbrev pub batch_count : RequestFields → ℕ
batch_count request = count_in (answer_to request)

-- the items of the batch with this number
abbrev pub items_of : RequestFields → ℕ → Items
items_of request number = part_of (answer_to request) number

-- whether no batch comes behind the one with this number
abbrev pub is_last : RequestFields → ℕ → Bool
is_last request number = number + 1 == batch_count request
