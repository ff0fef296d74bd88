use Rattle.std.specs.Prelude.{ℕ, ◌<◌, length}
use Rattle.std.proofs.Common.{sym, ap, ◌∙◌, subst}
use Rattle.std.proofs.lemmas.List.{with_items_is}
use Rattle.sg_dependencies.specs.Induced.{relation_at}
use Rattle.sg_kinds.specs.Dependencies.{Direct}
use Rattle.sg_dependencies.specs.Vertices.{AreRowsOf}
use Rattle.sg_dependencies.specs.Rounds.{AreFitting}
use Rattle.sg_dependencies.proofs.Saturated.{AreBare, AreSaturated, bare_phyla, bare_sized, fitting_first, induced_all, induced_of}
use Rattle.sg_dependencies.proofs.induction.closed.Goals as goal

pub saturate-requires : goal.saturate-requires
saturate-requires c =
    let fit = fitting_first c.args.rules.now c.args.frames.now c.args.operators.items c.in_ok-phyla.phyla.items c.requires.rules c.requires.frames c.requires.count (λ p low. (c.requires.direct p low).size) (bare_sized c.args.rules.now c.in_ok-phyla.phyla.items (bare_phyla c.args.rules.now c.in_ok-phyla.phyla.items c.in_ok-phyla.ensures)) in
    subst (λ xs. AreFitting c.args.frames.now xs c.as_mut_slice-2.result.now) (sym c.as_mut_slice.ensures.value) (subst (λ xs. AreFitting c.args.frames.now c.args.operators.items xs) (sym c.as_mut_slice-2.ensures.value) fit)

pub returns : goal.returns
returns c =
    let rules = c.args.rules.now in
    let operators = c.as_mut_slice.result.now in
    let phyla = c.as_mut_slice-2.result.now in
    let direct : (p : ℕ) → p < length rules.ops → AreRowsOf rules p (Direct rules p) (relation_at operators p) = subst (λ xs. (p : ℕ) → p < length rules.ops → AreRowsOf rules p (Direct rules p) (relation_at xs p)) (sym c.as_mut_slice.ensures.value) c.requires.direct in
    let bare : AreBare rules phyla = subst (AreBare rules) (sym c.as_mut_slice-2.ensures.value) (bare_phyla rules c.in_ok-phyla.phyla.items c.in_ok-phyla.ensures) in
    let s : AreSaturated rules c.args.frames.now operators phyla c.saturate.new.operators c.saturate.new.phyla = record {
      frames_are = c.requires.frames;
      long = ap length c.as_mut_slice.ensures.value ∙ c.requires.count;
      direct = direct;
      bare = bare;
      operators_alike = c.in_ok-saturate.ensures.operators;
      phyla_alike = c.in_ok-saturate.ensures.phyla;
      sound = c.in_ok-saturate.ensures.sound;
      keeps = c.in_ok-saturate.ensures.keeps;
      settled = c.in_ok-saturate.ensures.settled;
    } in
    induced_of rules c.saturate.new.operators c.saturate.new.phyla _
    (induced_all rules c.args.frames.now operators phyla c.saturate.new.operators c.saturate.new.phyla c.requires.rules s)
    (with_items_is c.args.operators c.saturate.new.operators (c.in_ok-saturate.ensures.operators.count ∙ c.as_mut_slice.ensures.len))
    (with_items_is c.in_ok-phyla.phyla c.saturate.new.phyla (c.in_ok-saturate.ensures.phyla.count ∙ c.as_mut_slice-2.ensures.len))
