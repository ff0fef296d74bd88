use Rattle.std.specs.Prelude.{◌-◌, suc, refl, take, drop}
use Rattle.std.proofs.Common.{arith}
use Rattle.sg_changes.proofs.Texts.{text_joined}
use Rattle.sg_changes.proofs.capture.Capture.erase.Goals as goal

pub invariant_of-self : goal.invariant_of-self
invariant_of-self c =
    let s = c.self.inside.text.items in
    let i = c.self.inside.point - 1 in
    let fewer = c.remove.ensures.len in (
      omega (arith, fewer),
      text_joined s i (suc i) (take i s) (drop (suc i) s) _ c.self.invariant.1 refl refl c.remove.ensures.items,
    )
