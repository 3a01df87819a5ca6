-- The code and the labels of a derivation depend only on its rules.
use Rattle.std.proofs.Common.{sym}
use Rattle.bc_cert_read.specs.TreeView.{rooted}
use Rattle.bc_cert.proofs.Codes.{no_room, right_found}
use Rattle.bc_cert.proofs.code.right_code.Goals as goal

pub returns-in_ok-pieces-in-Some : goal.returns-in_ok-pieces-in-Some
returns-in_ok-pieces-in-Some c = sym (right_found c.args.head (rooted c.args.rooted.now) c.next_label.result c.in-Some.field-0 c.in_ok-pieces-in-Some.pieces.items c.requires c.next_label.ensures c.in-Some.is (c.in_ok-pieces-in-Some.ensures {u = tt}))

pub returns-in-None : goal.returns-in-None
returns-in-None c = sym (no_room c.args.head (rooted c.args.rooted.now) c.next_label.result c.requires c.next_label.ensures c.in-None.is)
