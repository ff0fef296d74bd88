use Rattle.std.proofs.Common.{◌∙◌, sym, ap, subst}
use Rattle.std.specs.Prelude.{slice_get}
use Rattle.sg_names.specs.Rows.{row_at}
use Rattle.sg_remote.specs.Keys.{AreDistinct}
use Rattle.sg_remote.proofs.Keyed.{distinct_lists}
use Rattle.sg_remote.proofs.Users.{users_step, users_end}
use Rattle.sg_remote.proofs.edges.users.Goals as goal

pub add_user-requires : goal.add_user-requires
add_user-requires c = subst AreDistinct (sym c.requires) (distinct_lists c.args.atoms.now)

pub loop-atom-preserved : goal.loop-atom-preserved
loop-atom-preserved c = λ k fs there.
    users_step c.args.names.now fs c.args.atoms.now c.loop-atom.atom-index c.atom-item.result (row_at c.loop-atom.users k) (row_at c.add_user.new.users k)
    c.loop-atom-test.true c.atom-item.is (c.loop-atom.invariant k fs there) (c.in_ok-add_user.ensures k fs (ap (λ l. slice_get l k) c.requires ∙ there))

pub returns : goal.returns
returns c = λ k fs there.
    users_end c.args.names.now fs c.args.atoms.now c.loop-atom.atom-index (row_at c.loop-atom.users k) c.loop-atom-test.false (c.loop-atom.invariant k fs there)
