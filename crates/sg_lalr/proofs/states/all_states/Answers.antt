use Rattle.std.proofs.Common.{◌≡◌, ◌++◌, ◌∷◌, [], ◌∙◌, ap, length, map, arith, refl}
use Rattle.std.proofs.lemmas.List.{length-map}
use Rattle.sg_lalr.specs.Automaton.{start_items}
use Rattle.sg_lalr.proofs.PartLemmas.{part-none}
use Rattle.sg_lalr.proofs.states.all_states.Goals as goal

pub states-init : goal.states-init
states-init c =
    let keys : map (λ k. k.items) c.add.new.kernels.keys ≡ start_items c.args.g.now ∷ [] = c.in_ok-add.ensures ∙ ap (λ ks. map (λ k. k.items) ks ++ c.in_ok-starts.field-0.items ∷ []) c.new.ensures.empty ∙ ap (λ l. l ∷ []) c.in_ok-starts.ensures in
    let long = length-map c.add.new.kernels.keys (λ k. k.items) in
    let one = ap length keys in
    record {
      part = rw (keys, c.new-2.ensures.items, c.new-3.ensures.items, c.new-4.ensures.items) (part-none c.args.g.now);
      moves = rw (c.new-2.ensures.items, c.new-3.ensures.items) refl;
      rows = c.in_ok-rows.ensures.count ∙ c.symbols.ensures;
      empty = c.in_ok-rows.ensures.empty;
      few = omega (arith, long, one);
    }
