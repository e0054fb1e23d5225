use Rattle.std.proofs.Common.{◌≡◌, ◌++◌, ◌∷◌, [], true, decimal, string_bytes, ap, sym, ◌∙◌}
use Rattle.line_history.specs.History.{entries_of, entry_bytes}
use Rattle.line_history.proofs.EntryBytes.{entry_begun, valid_all, valid_more, written, written_all, written_more}
use Rattle.line_history.proofs.Growth.{grown_by_short, entries_of-nil}
use lib.Utf8.{scalars}
use Rattle.line_history.proofs.entries.entry_text.Goals as goal

pub loop-c-init : goal.loop-c-init
loop-c-init c =
    let chars = c.as_slice-c-items.result.now in
    record {
      so_far = ap (λ t. t ++ written chars) c.in_ok-words.ensures.ok
          ∙ ap (λ t. (10 ∷ 35 ∷ 32 ∷ (decimal c.args.moment ++ 10 ∷ 43 ∷ [])) ++ written t) c.as_slice-c-items.ensures
          ∙ entry_begun c.args.entry.now c.args.moment;
      valid = λ all. all;
    }

pub loop-c-preserved : goal.loop-c-preserved
loop-c-preserved c =
    let chars = c.as_slice-c-items.result.now in
    let i = c.loop-c.c-index in
    let char = c.c-item.result in
    let within = c.loop-c-test.true in
    record {
      so_far = written_more (string_bytes c.loop-c.words) (string_bytes c.push_char.new.words) chars (entry_bytes c.args.entry.now c.args.moment) i char
          within c.c-item.is c.loop-c.invariant.so_far c.in_ok-push_char.ensures.bytes;
      valid = λ all. c.loop-c.invariant.valid (valid_more chars i char within c.c-item.is c.in_ok-push_char.ensures.scalar all);
    }

pub returns : goal.returns
returns c =
    let entry = c.args.entry.now in
    let moment = c.args.moment in
    let chars = c.as_slice-c-items.result.now in
    let past = c.loop-c-test.false in
    let bytes : c.from_vec.result ≡ entry_bytes entry moment =
    c.from_vec.ensures ∙ ap (λ v. v.items) c.into_bytes.ensures.value
    ∙ written_all (string_bytes c.loop-c.words) (string_bytes c.push.new.self) chars (entry_bytes entry moment) c.loop-c.c-index past
    c.loop-c.invariant.so_far c.in_ok-push.ensures.bytes in
    let valid : scalars entry ≡ true =
    ap scalars (sym c.as_slice-c-items.ensures) ∙ valid_all chars c.loop-c.c-index past c.loop-c.invariant.valid in
    record {
      bytes = bytes;
      reads_back = λ short.
          ap entries_of bytes ∙ grown_by_short [] entry moment c.ranges.moment.fits valid short
          ∙ ap (λ ts. ts ++ entry ∷ []) entries_of-nil;
      grows = λ file short.
          ap (λ t. entries_of (file ++ t)) bytes ∙ grown_by_short file entry moment c.ranges.moment.fits valid short;
    }
