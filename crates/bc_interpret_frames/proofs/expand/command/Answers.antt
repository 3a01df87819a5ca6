use Rattle.std.proofs.Common.{◌≡◌, ◌+◌, ◌<◌, max, inl, inr, sym, ap, subst, ◌∙◌, arith}
use Rattle.bc_core.specs.Commands as commands
use Rattle.bc_core.specs.Layout.{cells_of_exp, cells_of_command, cells_of_block, cells_of_items}
use Rattle.bc_core.specs.View.{exp, command, block_of, items}
use Rattle.bc_core.proofs.Rows.{if_view, test_view, while_view, repeat_view, repeat_while_view, nested_view, for_view, switchon_view}
use Rattle.bc_interpret_defs.specs.Weight.{weight_of, weight_of_command, weight_of_block, weight_of_items}
use Rattle.bc_interpret_frames.specs.Parts.{bodies, weights, greatest, weight_of_all, Expanded}
use Rattle.bc_interpret_frames.proofs.Waits.{one_waits, two_wait, three_wait}
use Rattle.bc_interpret_frames.proofs.expand.command.Goals as goal

pub returns-in_ok-put-in-Test-3 : goal.returns-in_ok-put-in-Test-3
returns-in_ok-put-in-Test-3 c =
    let W = c.args.within in
    let old = c.args.waiting.now.items in
    let new = c.put-in-Test-2.new.waiting.items in
    let t = c.in-Test in
    subst (λ k. Expanded 0 (cells_of_command (bodies W) k c.args.s) (weight_of_command (weights W) k) old new) (sym (ap command t.is ∙ test_view t.test t.this t.that))
    (three_wait 0 _ _ (cells_of_exp (bodies W) (exp t.test) c.args.s) (weight_of (weights W) (exp t.test)) (cells_of_block (bodies W) (block_of t.this) c.args.s) (weight_of_block (weights W) (block_of t.this))
    (cells_of_block (bodies W) (block_of t.that) c.args.s) (weight_of_block (weights W) (block_of t.that)) old c.put.new.waiting.items c.put-in-Test.new.waiting.items new
    c.in_ok-put-in-Test.ensures.greatest c.in_ok-put-in-Test.ensures.weight c.in_ok-put-in-Test-2.ensures.greatest c.in_ok-put-in-Test-2.ensures.weight
    c.in_ok-put-in-Test-3.ensures.greatest c.in_ok-put-in-Test-3.ensures.weight (omega arith) (omega arith))

pub returns-in_ok-put-in-SwitchOn-2 : goal.returns-in_ok-put-in-SwitchOn-2
returns-in_ok-put-in-SwitchOn-2 c =
    let W = c.args.within in
    let old = c.args.waiting.now.items in
    let middle = c.put-in-SwitchOn.new.waiting.items in
    let new = c.put-in-SwitchOn-2.new.waiting.items in
    let t = c.in-SwitchOn in
    subst (λ k. Expanded 0 (cells_of_command (bodies W) k c.args.s) (weight_of_command (weights W) k) old new) (sym (ap command t.is ∙ switchon_view t.value t.items))
    (two_wait 0 _ _ (cells_of_exp (bodies W) (exp t.value) c.args.s) (weight_of (weights W) (exp t.value)) (cells_of_items (bodies W) (items t.items.items) c.args.s) (weight_of_items (weights W) (items t.items.items)) old middle new
    c.in_ok-put-in-SwitchOn.ensures.greatest c.in_ok-put-in-SwitchOn.ensures.weight
    (subst (λ is. greatest new ≡ max (cells_of_items (bodies W) (items is) c.args.s) (greatest middle)) c.deref.ensures.value c.in_ok-put-in-SwitchOn-2.ensures.greatest)
    (subst (λ is. weight_of_all new ≡ weight_of_items (weights W) (items is) + 1 + weight_of_all middle) c.deref.ensures.value c.in_ok-put-in-SwitchOn-2.ensures.weight)
    (omega arith) (omega arith))

pub returns-in_ok-above-in-For : goal.returns-in_ok-above-in-For
returns-in_ok-above-in-For c =
    let W = c.args.within in
    let old = c.args.waiting.now.items in
    let new = c.put-in-For-3.new.waiting.items in
    let t = c.in-For in
    let level = c.in_ok-level-in-For.level in
    let own = c.in_ok-above-in-For.field-0 in
    let inner = max (cells_of_exp (bodies W) (exp t.start) level) (max (cells_of_exp (bodies W) (exp t.limit) level) (cells_of_block (bodies W) (block_of t.body) level)) in
    subst (λ k. Expanded own (cells_of_command (bodies W) k c.args.s) (weight_of_command (weights W) k) old new) (sym (ap command t.is ∙ for_view t.start t.limit _ t.body))
    (three_wait own _ _ (cells_of_exp (bodies W) (exp t.start) level) (weight_of (weights W) (exp t.start)) (cells_of_exp (bodies W) (exp t.limit) level) (weight_of (weights W) (exp t.limit))
    (cells_of_block (bodies W) (block_of t.body) level) (weight_of_block (weights W) (block_of t.body)) old c.put-in-For.new.waiting.items c.put-in-For-2.new.waiting.items new
    c.in_ok-put-in-For.ensures.greatest c.in_ok-put-in-For.ensures.weight c.in_ok-put-in-For-2.ensures.greatest c.in_ok-put-in-For-2.ensures.weight c.in_ok-put-in-For-3.ensures.greatest c.in_ok-put-in-For-3.ensures.weight
    (ap (λ n. max (n + 2) (max (cells_of_exp (bodies W) (exp t.start) n) (max (cells_of_exp (bodies W) (exp t.limit) n) (cells_of_block (bodies W) (block_of t.body) n)))) (sym c.in_ok-level-in-For.ensures)
    ∙ ap (λ o. max o inner) (sym c.in_ok-above-in-For.ensures)) (omega arith))

pub returns-in_ok-put-in-Repeat : goal.returns-in_ok-put-in-Repeat
returns-in_ok-put-in-Repeat c =
    let W = c.args.within in
    let old = c.args.waiting.now.items in
    let new = c.put-in-Repeat.new.waiting.items in
    let t = c.in-Repeat in
    let waits = λ (k : commands.Command). Expanded 0 (cells_of_command (bodies W) k c.args.s) (weight_of_command (weights W) k) old new in
    let cells = cells_of_block (bodies W) (block_of t.body) c.args.s in
    let weight = weight_of_block (weights W) (block_of t.body) in
    elim t.is [
      | inl e ↦ subst waits (sym (ap command e ∙ repeat_view t.body)) (one_waits 0 _ _ cells weight old new c.in_ok-put-in-Repeat.ensures.greatest c.in_ok-put-in-Repeat.ensures.weight (omega arith) (omega arith))
      | inr e ↦ subst waits (sym (ap command e ∙ nested_view t.body)) (one_waits 0 _ _ cells weight old new c.in_ok-put-in-Repeat.ensures.greatest c.in_ok-put-in-Repeat.ensures.weight (omega arith) (omega arith))
    ]

pub returns-in_ok-put-in-If-2 : goal.returns-in_ok-put-in-If-2
returns-in_ok-put-in-If-2 c =
    let W = c.args.within in
    let old = c.args.waiting.now.items in
    let middle = c.put-in-If.new.waiting.items in
    let new = c.put-in-If-2.new.waiting.items in
    let t = c.in-If in
    let waits = λ (k : commands.Command). Expanded 0 (cells_of_command (bodies W) k c.args.s) (weight_of_command (weights W) k) old new in
    let test = cells_of_exp (bodies W) (exp t.condition.test) c.args.s in
    let test_weight = weight_of (weights W) (exp t.condition.test) in
    let cells = cells_of_block (bodies W) (block_of t.body) c.args.s in
    let weight = weight_of_block (weights W) (block_of t.body) in
    let first = c.in_ok-put-in-If.ensures in
    let second = c.in_ok-put-in-If-2.ensures in
    elim t.is [
      | inl e ↦ subst waits (sym (ap command e ∙ if_view t.condition t.body)) (two_wait 0 _ _ test test_weight cells weight old middle new first.greatest first.weight second.greatest second.weight (omega arith) (omega arith))
      | inr d ↦ elim d [
        | inl e ↦ subst waits (sym (ap command e ∙ while_view t.condition t.body)) (two_wait 0 _ _ test test_weight cells weight old middle new first.greatest first.weight second.greatest second.weight (omega arith) (omega arith))
        | inr e ↦ subst waits (sym (ap command e ∙ repeat_while_view t.body t.condition)) (two_wait 0 _ _ test test_weight cells weight old middle new first.greatest first.weight second.greatest second.weight (omega arith) (omega arith))
      ]
    ]
