use Rattle.std.specs.Prelude.{◌≡◌, ◌↔◌, ◌⊎◌, ℕ, ◌<◌, [], length, All}
use Rattle.std.proofs.Common.{sym, ap, ◌∙◌, subst, get_or, arith}
use Rattle.std.proofs.lemmas.List.{get_or_default}
use Rattle.sg_sets.specs.Rows.{Holds}
use Rattle.sg_dependencies.specs.declared.frame.Frame.{Frame}
use Rattle.sg_dependencies.specs.Induced.{relation_at}
use Rattle.sg_dependencies.specs.Rounds.{Fits, IsSpread, frame_at, no_frame}
use Rattle.sg_orders.proofs.Later.{extended_more}
use Rattle.sg_orders.proofs.extension.spread_each.Goals as goal

pub spread_all-requires : goal.spread_all-requires
spread_all-requires c =
    let frames = c.args.frames.now in
    let p = c.loop-p.p in
    let low : p < length frames = omega arith in
    let spots = c.as_slice.ensures ∙ ap (λ (f : Frame). f.spots) (c.index-frames-p.is ∙ get_or_default frames p c.index-frames-p.result no_frame low) in
    let there : p < length c.loop-p.operators = omega (arith, low, c.requires.count, c.loop-p.invariant.alike.count) in
    let held = ap length (get_or_default c.loop-p.operators p c.index-operators-p.result [] there) ∙ c.loop-p.invariant.alike.sizes p in
    subst (λ n. All (Fits n c.args.phyla.now) c.as_slice.result.now) (sym held) (subst (λ xs. All (Fits (length (relation_at c.args.operators.now p)) c.args.phyla.now) xs) (sym spots) (c.requires.fits p low))

pub loop-p-preserved : goal.loop-p-preserved
loop-p-preserved c =
    let frames = c.args.frames.now in
    let p = c.loop-p.p in
    let rows = c.spread_all.new.relation in
    let low : p < length frames = omega arith in
    let spots : c.as_slice.result.now ≡ (frame_at frames p).spots = c.as_slice.ensures ∙ ap (λ (f : Frame). f.spots) (c.index-frames-p.is ∙ get_or_default frames p c.index-frames-p.result no_frame low) in
    let there : p < length c.loop-p.operators = omega (arith, low, c.requires.count, c.loop-p.invariant.alike.count) in
    let held = get_or c.loop-p.operators p c.index-operators-p.result in
    let was : held ≡ relation_at c.loop-p.operators p = get_or_default c.loop-p.operators p c.index-operators-p.result [] there in
    let spreads : (m n : ℕ) → Holds rows m n ↔ (Holds held m n ⊎ IsSpread c.as_slice.result.now c.args.phyla.now m n) = c.spread_all.ensures.spreads in
    extended_more frames c.args.operators.now c.loop-p.operators c.args.phyla.now p rows c.loop-p.invariant there (c.spread_all.ensures.size ∙ ap length was)
    (subst (λ r. (m n : ℕ) → Holds rows m n ↔ (Holds r m n ⊎ IsSpread (frame_at frames p).spots c.args.phyla.now m n)) was (subst (λ xs. (m n : ℕ) → Holds rows m n ↔ (Holds held m n ⊎ IsSpread xs c.args.phyla.now m n)) spots spreads))
