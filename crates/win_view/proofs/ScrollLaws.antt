-- A scroll keeps the cursor in the window, and a settled one stays.
use Rattle.std.proofs.Common.{◌≡◌, ℕ, ◌+◌, ◌-◌, ◌/◌, ◌≤◌, ◌<◌, min, arith}
use Rattle.win_view.specs.Scroll.{brought, greatest_scroll, kept_before, kept_behind, least_scroll, scrolled, wanted_scroll}

-- the numbers of a scroll, where the cursor is one of the content's
pub record IsRange (cursor window content least greatest : ℕ) : Type 0 where
  pub order : least ≤ greatest
  pub low : cursor + 1 ≤ least + window
  pub high : greatest ≤ cursor
  pub inside : least ≤ content - window

range : (half before behind cursor window content : ℕ) → cursor < content → 1 ≤ window → half + half < window → before ≤ half → before ≤ cursor → behind ≤ half → behind ≤ content - 1 - cursor → IsRange cursor window content (cursor + 1 + behind - window) (cursor - before)
range half before behind cursor window content within some halves before_half before_cursor behind_half behind_content = record {
  order = omega arith;
  low = omega arith;
  high = omega arith;
  inside = omega arith;
}

halves : (window : ℕ) → 1 ≤ window → (window - 1) / 2 + (window - 1) / 2 < window
halves window some = omega arith

pub range_of : (offset cursor window content : ℕ) → cursor < content → 1 ≤ window → IsRange cursor window content (least_scroll offset cursor window content) (greatest_scroll offset cursor window)
range_of offset cursor window content within some =
    range ((window - 1) / 2) (kept_before offset cursor window) (kept_behind offset cursor window content) cursor window content
    within some (halves window some) (omega arith) (omega arith) (omega arith) (omega arith)

-- ---- the cursor stays in the window

pub record ShowsCursor (scroll cursor window : ℕ) : Type 0 where
  pub from : scroll ≤ cursor
  pub below : cursor < scroll + window

brought_shows : (least greatest wanted cursor window content : ℕ) → IsRange cursor window content least greatest → ShowsCursor (brought least greatest wanted) cursor window
brought_shows least greatest wanted cursor window content h = record {
  from = omega (arith, h.order, h.high);
  below = omega (arith, h.low);
}

pub scrolled_shows : (old offset cursor window content : ℕ) → cursor < content → 1 ≤ window → ShowsCursor (scrolled old offset cursor window content) cursor window
scrolled_shows old offset cursor window content within some =
    brought_shows (least_scroll offset cursor window content) (greatest_scroll offset cursor window) (wanted_scroll old window content)
    cursor window content (range_of offset cursor window content within some)

-- ---- a settled scroll stays

brought_again : (least greatest old most : ℕ) → least ≤ greatest → least ≤ most → brought least greatest (min (brought least greatest (min old most)) most) ≡ brought least greatest (min old most)
brought_again least greatest old most order inside = omega arith

pub scrolled_again : (old offset cursor window content : ℕ) → cursor < content → 1 ≤ window → scrolled (scrolled old offset cursor window content) offset cursor window content ≡ scrolled old offset cursor window content
scrolled_again old offset cursor window content within some =
    let h = range_of offset cursor window content within some in
    brought_again (least_scroll offset cursor window content) (greatest_scroll offset cursor window) old (content - window) h.order h.inside
