use Rattle.std.proofs.Common.{rules, ◌≡◌, ◌+◌, ◌-◌, ◌<◌, ◌∷◌, [], ◌++◌, length, take, refl, sym, ap, subst, arith, length-append}
use Rattle.bc_interpret_trace.proofs.Reading.{Reached, reached_first, call_read, other_read, all_read, ten_read}
use Rattle.bc_interpret_trace.proofs.trail.newest.Goals.{then-loop-left-test+else-len-lt-MOST, else-loop-left-test}
use Rattle.bc_interpret_trace.proofs.trail.newest.Goals as goal

pub loop-left-init : goal.loop-left-init
loop-left-init c =
    let all = c.args.rests.now in
    let none : length c.new-standings.result.items ≡ 0 = ap length c.new-standings.ensures.items in (
      omega arith,
      (
        omega (arith, none),
        subst (λ ss. Reached all (take (length all) all) ss c.new-position.result) (sym c.new-standings.ensures.items)
            (reached_first all (length all) c.new-position.result refl c.new-position.ensures),
      ),
    )

pub loop-left-preserved-in-Some : goal.loop-left-preserved-in-Some
loop-left-preserved-in-Some c =
    let l = c.loop-left in
    let left = l.left - 1 in
    let down : left + 1 ≡ l.left = omega (arith, c.loop-left-test.true) in
    let inside : left < length c.args.rests.now = omega (arith, c.loop-left-test.true, l.invariant.0) in
    let pushed : c.push.new.self.items ≡ l.standings.items ++ c.standing_in.result ∷ [] = search rules in (
      omega (arith, inside),
      (
        omega (arith, ap length pushed, length-append l.standings.items (c.standing_in.result ∷ []), c.len.ensures, c.if-len-lt-MOST.true),
        call_read c.args.rests.now l.left left c.index-rests-left.result l.standings.items c.push.new.self.items l.position c.new-position-in-Some.result
            c.opened_by.result c.in-Some.call c.standing_in.result down inside c.index-rests-left.is c.opened_by.ensures c.in-Some.is pushed
            c.standing_in.ensures c.new-position-in-Some.ensures l.invariant.1.1,
      ),
    )

pub loop-left-preserved : goal.loop-left-preserved
loop-left-preserved c =
    let l = c.loop-left in
    let left = l.left - 1 in
    let down : left + 1 ≡ l.left = omega (arith, c.loop-left-test.true) in
    let inside : left < length c.args.rests.now = omega (arith, c.loop-left-test.true, l.invariant.0) in (
      omega (arith, inside),
      (
        l.invariant.1.0,
        other_read c.args.rests.now l.left left c.index-rests-left.result l.standings.items l.position c.position_by.result c.joined-position.result
            c.opened_by.result down inside c.index-rests-left.is c.opened_by.ensures c.in-None.is c.position_by.ensures c.joined-position.ensures
            l.invariant.1.1,
      ),
    )

pub returns : goal.returns
returns c =
    let l = c.loop-left in
    let all = c.args.rests.now in
    elim c.loop-left-test.branch [
      | then-loop-left-test+else-len-lt-MOST w ↦
          let ten : length l.standings.items ≡ 10 = omega (arith, l.invariant.1.0, w.len.ensures, w.if-len-lt-MOST.false) in
          ten_read all (take l.left all) l.standings.items l.position ten l.invariant.1.1
      | else-loop-left-test w ↦
          let end : l.left ≡ 0 = omega (arith, w.loop-left-test.false) in
          all_read all (take l.left all) l.standings.items l.position (ap (λ n. take n all) end) l.invariant.1.0 l.invariant.1.1
    ]
