use Rattle.std.proofs.Common.{◌≡◌, ◌-◌, suc, sym, ap, ◌∙◌, ◌∷◌, leb, leb-true, leb-false, arith, rules, get_or}
use Rattle.std.proofs.lemmas.List.Sorted.{IsPartitionPoint-from_clause, IsPartitionedBy-leb}
use Rattle.sg_unparse.specs.Sheet.{no_node}
use Rattle.sg_unparse.specs.declared.page.Run.{Run}
use Rattle.sg_unparse.proofs.Runs.{owner_at, some_passed}
use Rattle.sg_unparse.proofs.page.owner_in.Goals as goal

pub overflow_sub-result : goal.overflow_sub-result
overflow_sub-result c =
    let parted = IsPartitionedBy-leb (λ (r : Run). r.from) _ c.args.k c.requires.rising in
    let point = IsPartitionPoint-from_clause (λ (r : Run). leb r.from c.args.k) _ _ c.partition_point-behind.ensures.partitioned parted (λ a r q k. search rules) in
    some_passed c.args.runs.now c.partition_point-behind.result c.args.k c.requires.first (λ i e l m. leb-false _ _ (point.1 i e l m))

pub returns : goal.returns
returns c =
    let parted = IsPartitionedBy-leb (λ (r : Run). r.from) _ c.args.k c.requires.rising in
    let point = IsPartitionPoint-from_clause (λ (r : Run). leb r.from c.args.k) _ _ c.partition_point-behind.ensures.partitioned parted (λ a r q k. search rules) in
    let p = c.partition_point-behind.result in
    let d : Run = record { from = 0; owner = no_node } in
    let some = some_passed c.args.runs.now p c.args.k c.requires.first (λ i e l m. leb-false _ _ (point.1 i e l m)) in
    let same : suc (p - 1) ≡ p = omega (arith, some) in
    ap (λ i. (get_or (d ∷ c.args.runs.now) i d).owner) same
    ∙ sym (owner_at d c.args.runs.now p c.args.k c.partition_point-behind.ensures.bound (λ i e l. leb-true _ _ (point.0 i e (omega arith) l)) (λ i e l m. leb-false _ _ (point.1 i e l m)))
