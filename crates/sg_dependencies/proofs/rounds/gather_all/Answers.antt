use Rattle.std.specs.Prelude.{◌≡◌, ◌↔◌, ◌⊎◌, ℕ, ◌+◌, ◌<◌, ◌≤◌, [], length, slice_set}
use Rattle.std.proofs.Common.{refl, ap, ◌∙◌, subst, get_or, arith}
use Rattle.std.proofs.lemmas.List.{get_or_default}
use Rattle.sg_sets.specs.Rows.{Holds, all_missing}
use Rattle.sg_dependencies.specs.Frames.{Spot, no_spot}
use Rattle.sg_dependencies.specs.Induced.{relation_at}
use Rattle.sg_dependencies.specs.Rounds.{IsMet}
use Rattle.sg_dependencies.proofs.Gathers.{GainsAt, gathered_more, gathered_same}
use Rattle.sg_dependencies.proofs.rounds.gather_all.Goals as goal
use Rattle.sg_dependencies.proofs.rounds.gather_all.Goals.{then-gather, else-gather}

pub loop-spot-preserved : goal.loop-spot-preserved
loop-spot-preserved c =
    let spots = c.args.spots.now in
    let closed = c.args.closed.now in
    let i = c.loop-spot.spot-index in
    let now = c.loop-spot.phyla in
    let rows = c.gather.new.phylum in
    let s : Spot = get_or spots i no_spot in
    let low : i < length spots = c.loop-spot-test.true in
    let fits = c.requires i no_spot low in
    let there : s.phylum < length now = omega (arith, fits.phylum, c.loop-spot.invariant.alike.count) in
    let held = get_or now s.phylum c.index-phyla-spot.result in
    let was : held ≡ relation_at now s.phylum = get_or_default now s.phylum c.index-phyla-spot.result [] there in
    let gathers : (a b : ℕ) → Holds rows a b ↔ (Holds held a b ⊎ IsMet s (Holds closed) a b) = c.gather.ensures.gathers in
    let g : GainsAt spots closed now (slice_set now s.phylum rows) i s rows = record {
      low = low;
      at = get_or_default spots i no_spot s low;
      there = there;
      put = refl;
      long = c.gather.ensures.size ∙ ap length was;
      gathers = subst (λ r. (a b : ℕ) → Holds rows a b ↔ (Holds r a b ⊎ IsMet s (Holds closed) a b)) was gathers;
    } in
    elim c.if-gather.branch [
      | then-gather w ↦
          let less = rw w.if-gather.true at c.gather.ensures.fewer in
          let fewer : all_missing rows + 1 ≤ all_missing (relation_at now s.phylum) = omega (arith, less, ap all_missing was) in
          rw w.gained-is (gathered_more spots closed c.args.phyla.now now (slice_set now s.phylum rows) c.loop-spot.gained i s rows c.loop-spot.invariant g fewer)
      | else-gather w ↦
          let same = rw w.if-gather.false at c.gather.ensures.stays in
          rw w.gained-is (gathered_same spots closed c.args.phyla.now now (slice_set now s.phylum rows) c.loop-spot.gained i s rows c.loop-spot.invariant g (same ∙ was))
    ]
