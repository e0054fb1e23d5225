use Rattle.std.proofs.Common.{◌≡◌, subst, sym, ◌∙◌}
use Rattle.std.proofs.lemmas.Option.{MatchOption-at_none, MatchOption-at_some}
use Rattle.style_sheet.specs.Grammar.{IsFirstOutside, IsRule, IsRuleText, parts_of, rule_text}
use Rattle.style_sheet.proofs.Parts.{left_parts, next_part, push_part, each-push}
use Rattle.style_sheet.proofs.RuleTexts.{first_outside}
use Rattle.style_sheet.proofs.sheets.read_rules.Goals as goal

pub returns-in-None-clause-cause : goal.returns-in-None-clause-cause
returns-in-None-clause-cause c =
    subst (IsFirstOutside c.args.text.now) (sym (c.len.ensures ∙ c.loop-left.rules.ok.0))
    (first_outside c.args.text.now c.cut.result.0.now c.loop-left.rules.items (left_parts 59 c.cut.result.1) c.loop-left.invariant.each
    (next_part 59 _ _ c.loop-left.left c.in-Some.here c.cut.result.0.now c.cut.result.1 c.loop-left.invariant.so_far c.in-Some.is c.cut.ensures.whole c.cut.ensures.first)
    (MatchOption-at_none (IsRuleText c.cut.result.0.now → ⊥) (λ _. Unit {0}) c.in-None.is c.in_ok-rule.ensures.none))

pub loop-left-preserved : goal.loop-left-preserved
loop-left-preserved c =
    let found = MatchOption-at_some (Unit {0}) (λ rule. IsRule rule × (rule_text rule ≡ c.cut.result.0.now)) c.in-Some-2.rule c.in-Some-2.is c.in_ok-rule.ensures.found in
    rw c.in_ok-push-in-Some-2.ensures.items (record {
      each = each-push IsRule c.loop-left.rules.items c.in-Some-2.rule c.loop-left.invariant.each found.0;
      so_far = push_part rule_text c.loop-left.rules.items c.in-Some-2.rule c.cut.result.0.now (left_parts 59 c.cut.result.1) (parts_of c.args.text.now)
          (next_part 59 _ _ c.loop-left.left c.in-Some.here c.cut.result.0.now c.cut.result.1 c.loop-left.invariant.so_far c.in-Some.is c.cut.ensures.whole c.cut.ensures.first)
          found.1;
    })
