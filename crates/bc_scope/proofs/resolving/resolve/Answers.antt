use Rattle.std.proofs.Common.{arith}
use Rattle.std.proofs.lemmas.Result.{err_from_is_err_and}
use Rattle.bc_parse_tree.specs.View.{section_view}
use Rattle.bc_scope.proofs.Resolved.{fault_stays, too_many, no_fault, fits}
use Rattle.bc_scope.proofs.resolving.resolve.Goals as goal

pub returns-in_err-judge : goal.returns-in_err-judge
returns-in_err-judge c =
    let h = rw c.deref.ensures.value at c.in_err-judge.ensures.answer in
    let p = err_from_is_err_and c.from_residual.result c.from_residual.ensures.1 in
    rw (p.1, p.2) (fault_stays _ (section_view c.args.section.now) h)

pub returns-then-len-gt8000 : goal.returns-then-len-gt8000
returns-then-len-gt8000 c =
    let h = rw c.deref.ensures.value at c.in_ok-judge.ensures.answer in
    let e = rw c.deref-2.ensures.value at c.in_ok-found.ensures in
    let f = c.in_ok-found.found in
    too_many (section_view c.args.section.now) f.places.items f.valofs.items h e (omega (arith, c.len.ensures, f.places.ok.0))

pub new-requires : goal.new-requires
new-requires c =
    let h = rw c.deref.ensures.value at c.in_ok-judge.ensures.answer in
    let e = rw c.deref-2.ensures.value at c.in_ok-found.ensures in
    let f = c.in_ok-found.found in
    fits (section_view c.args.section.now) f.places.items f.valofs.items c.requires h e (omega (arith, c.len.ensures, f.places.ok.0))

pub returns : goal.returns
returns c =
    let h = rw c.deref.ensures.value at c.in_ok-judge.ensures.answer in
    let e = rw c.deref-2.ensures.value at c.in_ok-found.ensures in
    let f = c.in_ok-found.found in
    (no_fault (section_view c.args.section.now) f.places.items f.valofs.items h e (omega (arith, c.len.ensures, f.places.ok.0)), rw c.new.ensures e)
