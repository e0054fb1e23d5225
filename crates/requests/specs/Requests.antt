-- What a contract sees of a request: its fields. The tools are those that it shares.
use Rattle.std.specs.Prelude.{ℕ}
use Rattle.text_doc.specs.Document.{Document}
use Rattle.completers.specs.declared.tool_set.Tools.{Tools}
use Rattle.requests.specs.declared.requests.Kind.{Kind}

-- a number, a kind, the document to answer for and what the answer is made with
pub record RequestFields : Type 0 where
  pub id : ℕ
  pub kind : Kind
  pub doc : Document
  pub tools : Tools
