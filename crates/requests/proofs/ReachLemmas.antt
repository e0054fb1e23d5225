-- No completion of an answer replaces more than what stands before the cursor.
use Rattle.std.proofs.Common.{ℕ, ◌*◌, ◌≤◌, Option, None, Some, drop, sym, subst}
use Rattle.std.specs.List.{All}
use Rattle.std.proofs.lemmas.List.Elements.{All-nil, All-take, All-drop}
use Rattle.text_doc.specs.Document.{Document}
use Rattle.text_doc.specs.declared.completions.Completion.{Completion}
use Rattle.completers.specs.Listed.{all_items}
use Rattle.completers.specs.Trees.{Tree}
use Rattle.completers.proofs.ReachLemmas.{reach_all}
use Rattle.requests.specs.declared.items.Items.{Items}
use Rattle.requests.specs.declared.items.Items.TheVariants.{Completions, Suggestion, Verdict}
use Rattle.requests.specs.declared.requests.Kind.{Kind}
use Rattle.requests.specs.declared.requests.Kind.TheVariants.{Complete, Suggest, Check}
use Rattle.requests.specs.Requests.{RequestFields}
use Rattle.requests.specs.Whole.{completions_of, answer_by, answer_to}
use Rattle.requests.specs.Batching.{part_of, items_of}
use Rattle.requests.specs.Batches.{BatchFields, IsBatch, IsWithin}

completions_within : (completer : Option Tree) (doc : Document) → All (λ item. item.back ≤ doc.cursor) (completions_of completer doc)
completions_within None doc = All-nil (λ (item : Completion). item.back ≤ doc.cursor)
completions_within (Some tree) doc = All-take (λ item. item.back ≤ doc.cursor) 10000 (all_items tree doc) (reach_all tree doc)

answer_by_within : (kind : Kind) (request : RequestFields) → IsWithin request.doc (answer_by kind request)
answer_by_within Complete request = completions_within request.tools.completer request.doc
answer_by_within Suggest request = tt
answer_by_within Check request = tt

pub answer_within : (request : RequestFields) → IsWithin request.doc (answer_to request)
answer_within request = answer_by_within request.kind request

part_within : (doc : Document) (answer : Items) (number : ℕ) → IsWithin doc answer → IsWithin doc (part_of answer number)
part_within doc (Completions items) number all =
    All-take (λ item. item.back ≤ doc.cursor) 64 (drop (64 * number) items) (All-drop (λ item. item.back ≤ doc.cursor) (64 * number) items all)
part_within doc (Suggestion text) number all = tt
part_within doc (Verdict verdict) number all = tt

pub items_within : (request : RequestFields) (number : ℕ) → IsWithin request.doc (items_of request number)
items_within request number = part_within request.doc (answer_to request) number (answer_within request)

pub batch_within : (b : BatchFields) → IsBatch b → IsWithin b.request.doc b.items
batch_within b is = let P : Items → Type 0 = λ items. IsWithin b.request.doc items in subst P (sym is.items_are) (items_within b.request b.number)
