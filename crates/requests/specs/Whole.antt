-- The whole answer to a request.
use Rattle.std.specs.Prelude.{List, [], Option, None, Some}
use Rattle.text_doc.specs.Document.{Document}
use Rattle.text_doc.specs.declared.completions.Completion.{Completion}
use Rattle.completers.specs.Listed.{listed_items}
use Rattle.completers.specs.Suggested.{suggestion}
use Rattle.completers.specs.Trees.{Tree}
use Rattle.completers.specs.Verdicts.{verdict_of}
use Rattle.requests.specs.declared.items.Items.{Items}
use Rattle.requests.specs.declared.items.Items.TheVariants.{Completions, Suggestion, Verdict}
use Rattle.requests.specs.declared.requests.Kind.{Kind}
use Rattle.requests.specs.declared.requests.Kind.TheVariants.{Complete, Suggest, Check}
use Rattle.requests.specs.Requests.{RequestFields}

-- the completions of a document; none without a completer
abbrev pub completions_of : Option Tree → Document → List Completion
completions_of None doc = []
completions_of (Some completer) doc = listed_items completer doc

-- the completions that a request asks for
abbrev pub completions_for : RequestFields → List Completion
completions_for request = completions_of request.tools.completer request.doc

-- the answer of this kind to a request
abbrev pub answer_by : Kind → RequestFields → Items
answer_by Complete request = Completions (completions_for request)
answer_by Suggest request = Suggestion (suggestion request.tools.history request.doc.text)
answer_by Check request = Verdict (verdict_of request.tools.validator request.doc.text)

-- the answer to a request
abbrev pub answer_to : RequestFields → Items
answer_to request = answer_by request.kind request
