use Rattle.std.proofs.Common.{◌∙◌, sym, ap, Some, slice_get, map, inl, inr}
use Rattle.sg_kinds.specs.Values.{Truth, Number, Chars, Fault, row_of}
use Rattle.sg_pool.specs.PoolEntries.{entry_value}
use Rattle.sg_pool.specs.Pools.{StandsFor, value_at}
use Rattle.sg_build.proofs.Told.{number_there}
use Rattle.sg_saved.proofs.Leaves.{leaf-put, tree-put}
use Rattle.sg_saved.proofs.writing.put_leaf.Goals as goal

pub stored-requires : goal.stored-requires
stored-requires c = number_there c.args.terms.now c.facts.ensures c.args.n c.requires.live c.requires.leaf

pub returns-in-Bool : goal.returns-in-Bool
returns-in-Bool c =
    let g = c.args.terms.now in
    let stands : StandsFor g.pool c.stored.result (Truth c.in-Bool.b) = ap (λ pool. slice_get pool c.stored.result) (sym c.pool.ensures) ∙ c.entry.ensures.value ∙ ap (λ e. Some (entry_value c.pool.result.now e)) c.in-Bool.is in
    leaf-put g c.args.n c.stored.result (Truth c.in-Bool.b) c.args.out.now.items c.put_truth.new.out.items c.put_truth.result stands c.stored.ensures.leaf c.put_truth.ensures

pub returns-in-Int : goal.returns-in-Int
returns-in-Int c =
    let g = c.args.terms.now in
    let stands : StandsFor g.pool c.stored.result (Number c.in-Int.n) = ap (λ pool. slice_get pool c.stored.result) (sym c.pool.ensures) ∙ c.entry.ensures.value ∙ ap (λ e. Some (entry_value c.pool.result.now e)) c.in-Int.is in
    leaf-put g c.args.n c.stored.result (Number c.in-Int.n) c.args.out.now.items c.put_number.new.out.items c.put_number.result stands c.stored.ensures.leaf c.put_number.ensures

pub returns-in-Text : goal.returns-in-Text
returns-in-Text c =
    let g = c.args.terms.now in
    let stands : StandsFor g.pool c.stored.result (Chars c.as_slice.result.now) = ap (λ pool. slice_get pool c.stored.result) (sym c.pool.ensures) ∙ c.entry.ensures.value ∙ ap (λ e. Some (entry_value c.pool.result.now e)) c.in-Text.is ∙ ap (λ s. Some (Chars s)) (sym c.as_slice.ensures) in
    leaf-put g c.args.n c.stored.result (Chars c.as_slice.result.now) c.args.out.now.items c.put_text.new.out.items c.put_text.result stands c.stored.ensures.leaf c.put_text.ensures

pub returns-in-Tree : goal.returns-in-Tree
returns-in-Tree c =
    let g = c.args.terms.now in
    let pool = c.pool.result.now in
    let all = c.put_text-in-Tree.new.out.items in
    let entry = ap (λ pool. slice_get pool c.stored.result) (sym c.pool.ensures) ∙ c.entry.ensures.value in
    elim c.in-Tree.is [
      | inl t ↦ tree-put g c.facts.ensures c.args.n c.requires.live c.stored.result t.0 (row_of (map (value_at pool) t.1)) c.args.out.now.items all c.put_text-in-Tree.result (entry ∙ ap (λ e. Some (entry_value pool e)) t.2) c.stored.ensures.leaf
      | inr f ↦ leaf-put g c.args.n c.stored.result (Fault f.0) c.args.out.now.items all c.put_text-in-Tree.result (entry ∙ ap (λ e. Some (entry_value pool e)) f.1) c.stored.ensures.leaf c.put_text-in-Tree.ensures
    ]
