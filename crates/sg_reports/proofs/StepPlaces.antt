-- The places of the steps from level to level, with one step and one nonterminal more.
use Rattle.std.specs.Prelude.{◌≡◌, ℕ, suc, ◌+◌, ◌<◌, List, [], ◌∷◌, ◌++◌, map, flat_map, take, length, slice_index_or}
use Rattle.std.proofs.Common.{sym, ap, ◌∙◌, arith}
use Rattle.std.proofs.lemmas.List.{map-append, append-nil, take_more}
use Rattle.std.proofs.lemmas.List.Concat.{flat_map-append}
use Rattle.sg_kinds.specs.Instances.{below}
use Rattle.sg_kinds.specs.declared.fault.Position.{Position}
use Rattle.sg_kinds.specs.declared.spec.LevelLine.{LevelLine}
use Rattle.sg_kinds.specs.declared.spec.Production.{Production}
use Rattle.sg_prec.specs.Levels.{lines_of, levels_of, row_at}
use Rattle.sg_prec.proofs.RisingRows.{row_of_levels}
use Rattle.sg_reports.specs.Places.{place_in}

pub step_more : (places : List Position) (row : List ℕ) (k : ℕ) → k < length row
    → map (place_in places) (take (k + 1) row) ≡ map (place_in places) (take k row) ++ place_in places (slice_index_or row k 0) ∷ []
step_more places row k low = ap (map (place_in places)) (take_more row k 0 low) ∙ map-append (place_in places) (take k row) (slice_index_or row k 0 ∷ [])

pub steps_more : (places : List Position) (lines : List LevelLine) (ps : List Production) (n : ℕ) (rows : List (List ℕ)) → rows ≡ levels_of lines ps
    → map (place_in places) (flat_map (lines_of lines ps) (below (n + 1))) ≡ map (place_in places) (flat_map (lines_of lines ps) (below n)) ++ map (place_in places) (row_at rows n)
steps_more places lines ps n rows is =
    let more : n + 1 ≡ suc n = omega arith in
    let row : lines_of lines ps n ≡ row_at rows n = sym (ap (λ z. row_at z n) is ∙ row_of_levels lines ps n) in
    let one : flat_map (lines_of lines ps) (n ∷ []) ≡ lines_of lines ps n = append-nil (lines_of lines ps n) in
    ap (λ k. map (place_in places) (flat_map (lines_of lines ps) (below k))) more
    ∙ ap (map (place_in places)) (flat_map-append (lines_of lines ps) (below n) (n ∷ []) ∙ ap (λ xs. flat_map (lines_of lines ps) (below n) ++ xs) (one ∙ row))
    ∙ map-append (place_in places) (flat_map (lines_of lines ps) (below n)) (row_at rows n)
