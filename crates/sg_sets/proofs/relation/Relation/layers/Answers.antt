use Rattle.std.proofs.Common.{◌≡◌, ℕ, suc, ◌<◌, ◌∙◌, inl, inr, ap, sym, length, arith}
use Rattle.std.specs.Prelude.{◌↔◌}
use Rattle.std.proofs.lemmas.List.{length-replicate, length_push}
use Rattle.std.proofs.lemmas.Bool.{false≢true, cases_lt}
use Rattle.sg_sets.specs.Members.{Has}
use Rattle.sg_sets.specs.Rows.{Holds}
use Rattle.sg_sets.proofs.BeforeLemmas.{Has-single}
use Rattle.sg_sets.proofs.MembersLemmas.{not-has}
use Rattle.sg_sets.proofs.LayersLemmas.{layer-first, layer-next, missing_of-next, AreLayers-push}
use Rattle.sg_sets.proofs.relation.Relation.layers.Goals as goal

pub insert-requires : goal.insert-requires
insert-requires c =
    let empty = c.in_ok-target.ensures in
    rw (empty, length-replicate, c.size.ensures) c.requires.goal

pub loop-alloc-init : goal.loop-alloc-init
loop-alloc-init c =
    let empty = c.in_ok-target.ensures in
    let before = c.in_ok-layer.ensures.before in
    let width = c.in_ok-layer.ensures.width in
    let size : c.args.goal < c.size.result = rw c.size.ensures c.requires.goal in
    let target : (b : ℕ) → Has c.insert.new.self b ↔ (b ≡ c.args.goal) = rw (c.insert.ensures.gains, empty) (λ b. Has-single c.size.result c.args.goal b size) in
    let first = layer-first (Holds c.args.self.now) c.args.goal (length c.args.self.now) c.in_ok-layer.layer c.insert.new.self width target before in
    rw c.new-layers.ensures.items record { layer = first; layers = λ k h. absurd (omega (arith, h)); shortest = λ via leads. omega arith }

pub loop-alloc-smaller : goal.loop-alloc-smaller
loop-alloc-smaller c =
    let layer = c.loop-alloc.invariant.layer in
    let width = c.union.ensures.width ∙ c.in_ok-next.ensures.width in
    let next = layer-next (Holds c.args.self.now) c.args.goal (length c.args.self.now) (length c.loop-alloc.layers.items) c.loop-alloc.layer c.in_ok-next.next c.union.new.self layer width c.in_ok-next.ensures.before c.union.ensures.joins in
    let out = not-has c.loop-alloc.layer c.args.start (λ h. false≢true (sym c.loop-alloc-test.true ∙ c.contains.ensures.1 h)) in
    missing_of-next (Holds c.args.self.now) c.args.goal (length c.args.self.now) (length c.loop-alloc.layers.items) c.loop-alloc.layer c.union.new.self layer next c.args.start c.requires.path.0 c.requires.path.1 out

pub loop-alloc-preserved : goal.loop-alloc-preserved
loop-alloc-preserved c =
    let items = c.in_ok-push.ensures.items in
    let layer = c.loop-alloc.invariant.layer in
    let long : length c.push.new.self.items ≡ suc (length c.loop-alloc.layers.items) = ap length items ∙ length_push c.loop-alloc.layers.items c.loop-alloc.layer ∙ omega arith in
    let width = c.union.ensures.width ∙ c.in_ok-next.ensures.width in
    let next = layer-next (Holds c.args.self.now) c.args.goal (length c.args.self.now) (length c.loop-alloc.layers.items) c.loop-alloc.layer c.in_ok-next.next c.union.new.self layer width c.in_ok-next.ensures.before c.union.ensures.joins in
    record {
      layer = rw long next;
      layers = rw items (AreLayers-push (Holds c.args.self.now) c.args.goal (length c.args.self.now) c.loop-alloc.layers.items c.loop-alloc.layer c.loop-alloc.invariant.layers layer);
      shortest = λ via leads. elim (cases_lt (length via) (suc (length c.loop-alloc.layers.items))) [
        | inl short ↦ absurd (false≢true (sym c.loop-alloc-test.true ∙ c.contains.ensures.1 ((layer.within c.args.start).1 (via, leads, short))))
        | inr enough ↦ rw long enough
      ];
    }

pub returns-clause-apart : goal.returns-clause-apart
returns-clause-apart c =
    let way = (c.loop-alloc.invariant.layer.within c.args.start).0 (c.contains.ensures.0 c.loop-alloc-test.false) in
    let least = c.loop-alloc.invariant.shortest way.0 way.1 in
    let long = way.2 in
    record { shortest = c.loop-alloc.invariant.shortest; reached = (way.0, way.1, omega (arith, least, long)) }
