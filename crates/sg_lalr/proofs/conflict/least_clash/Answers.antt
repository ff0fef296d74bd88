use Rattle.std.proofs.Common.{◌≡◌, ℕ, ◌⊎◌, inl, inr, None, sym, ap, ◌∙◌, subst, length, arith}
use Rattle.std.specs.Prelude.{◌↔◌}
use Rattle.sg_sets.specs.Members.{Has, Shared}
use Rattle.sg_sets.specs.Rows.{row_of, Holds}
use Rattle.sg_sets.proofs.MembersLemmas.{has-below}
use Rattle.sg_lalr.specs.Items.{symbol_of}
use Rattle.sg_lalr.specs.Lookaheads.{node_at}
use Rattle.sg_lalr.proofs.ClosureLemmas.{none-held}
use Rattle.sg_lalr.proofs.ClashLemmas.{taking-more, taking-same, pair-clashes, clash-pair, is_none-None, is_none-Some, lesser-all, some-shared}
use Rattle.sg_lalr.proofs.conflict.least_clash.Goals as goal
use Rattle.sg_lalr.proofs.conflict.least_clash.Goals.{then-is_none, else-is_none}

pub loop-m-init : goal.loop-m-init
loop-m-init c =
    let g = c.args.g.now in
    let nodes = c.args.nodes.now in
    let rows = c.args.rows.now.rows in
    record {
      width = c.shifted.ensures.width;
      has = λ t. (
        λ h. elim ((c.shifted.ensures.gains t).0 h) [
          | inl old ↦ absurd (none-held (length c.args.taken.now) t (subst (λ s. Has s t) c.clear.ensures old))
          | inr new ↦ inl new
        ],
        λ h. elim h [ inl s ↦ (c.shifted.ensures.gains t).1 (inr s) | inr r ↦ absurd (let l = r.1 in let k = r.2 in omega (arith, l, k)) ],
      );
      least = λ t r l p. absurd (let k = p.0 in omega (arith, l, k));
      found = λ l. absurd (let e = c.terminals-best.ensures in omega (arith, l, e));
      within = let e = c.terminals-best.ensures in omega (arith, e);
    }

pub loop-m-preserved : goal.loop-m-preserved
loop-m-preserved c =
    let g = c.args.g.now in
    let nodes = c.args.nodes.now in
    let rows = c.args.rows.now.rows in
    let m = c.loop-m.m in
    let symbol = c.symbol_of.ensures.symbol in
    elim c.if-is_none.branch [
      | then-is_none w ↦ rw (w.taken-is, w.best-is) (
          let none : symbol_of g (node_at nodes m).item ≡ None = sym symbol ∙ is_none-None c.symbol_of.result c.is_none.result c.is_none.ensures w.if-is_none.true in
          let row : w.row-then-is_none.result.now ≡ row_of rows m = w.row-then-is_none.ensures.row in
          let shared : (t : ℕ) → Has c.loop-m.taken t → Holds rows m t → Shared c.loop-m.taken w.row.result.now t = λ t h k. (h, subst (λ r. Has r t) (sym w.row.ensures.row) k) in
          taking-more g nodes rows c.args.from c.args.to c.loop-m.taken w.union.new.self c.loop-m.best w.lesser-best.result m (omega arith) (omega arith) none
          (λ t h. let b = has-below (row_of rows m) t h in let wide = w.row-then-is_none.ensures.width in let long = ap length row in let f = c.requires.rows in omega (arith, b, wide, long, f))
          w.union.ensures.width
          (subst (λ r. (t : ℕ) → Has w.union.new.self t ↔ (Has c.loop-m.taken t ⊎ Has r t)) row w.union.ensures.joins)
          (λ t h k. lesser-all w.first_shared.result w.lesser-best.result (Shared c.loop-m.taken w.row.result.now) w.first_shared.ensures.none w.first_shared.ensures.least w.lesser-best.ensures.least t (shared t h k))
          w.lesser-best.ensures.below
          (elim w.lesser-best.ensures.either [
            | inl e ↦ inl e
            | inr some ↦ (let s = some-shared w.first_shared.result (Shared c.loop-m.taken w.row.result.now) w.lesser-best.result some w.first_shared.ensures.shared in inr (s.0, subst (λ r. Has r w.lesser-best.result) w.row.ensures.row s.1))
          ])
          c.loop-m.invariant
          )
      | else-is_none w ↦ rw (w.taken-is, w.best-is) (taking-same g nodes rows c.args.from c.args.to c.loop-m.taken c.loop-m.best m (λ e. is_none-Some c.symbol_of.result c.is_none.result c.is_none.ensures w.if-is_none.false (symbol ∙ e)) c.loop-m.invariant)
    ]

pub returns-clause-least : goal.returns-clause-least
returns-clause-least c t h =
    let p = clash-pair c.args.g.now c.args.nodes.now c.args.rows.now.rows c.args.from c.args.to t h in
    c.loop-m.invariant.least t p.0 (let l = p.1 in omega (arith, l)) p.2

pub returns-clause-clash : goal.returns-clause-clash
returns-clause-clash c l =
    let f = c.loop-m.invariant.found l in
    pair-clashes c.args.g.now c.args.nodes.now c.args.rows.now.rows c.args.from c.args.to c.requires.apart f.0 c.loop-m.best (let b = f.1 in omega (arith, b)) f.2
