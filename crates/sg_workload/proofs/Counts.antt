-- How many commands a workload has.
use Rattle.std.specs.Prelude.{◌≡◌, ◌≤◌, ◌<◌, ◌+◌, ◌*◌, ℕ, zero, suc, Bool, if◌then◌else◌, [], ◌∷◌, ◌++◌, length, replicate}
use Rattle.std.proofs.Common.{refl, ap, arith}
use Rattle.std.proofs.lemmas.Bool.{lt-ltb}
use Rattle.std.proofs.lemmas.List.{length-append, length-replicate}
use Rattle.sg_script.specs.declared.command.Command.TheVariants.{InsertAfter, Text, Undo, Redo}
use Rattle.sg_workload.specs.Workload.{number_at, statement_of, written, statements, turns, workload}

-- the first statement takes one command, each other two
two_each : (n i : ℕ) → 1 < i → length (written n i) ≡ 2
two_each n i h =
    ap (λ (b : Bool). length ((if b then InsertAfter ∷ [] else []) ++ Text (statement_of (number_at n i)) ∷ [])) (lt-ltb 1 i h)

first_size : (n k : ℕ) → length (statements n (suc k)) ≡ 1 + 2 * k
first_size n zero = refl
first_size n (suc k) =
    let e = length-append (statements n (suc k)) (written n (suc (suc k))) in
    let two = two_each n (suc (suc k)) (omega arith) in
    let r = first_size n k in
    omega (arith, e, two, r)

parts_size : (n : ℕ) → length (workload n) ≡ 3 + (length (statements n n) + (turns n + turns n))
parts_size n =
    let undo = length-replicate (turns n) Undo in
    let redo = length-replicate (turns n) Redo in
    let back = length-append (statements n n) (replicate (turns n) Undo) in
    let forth = length-append (statements n n ++ replicate (turns n) Undo) (replicate (turns n) Redo) in
    omega (arith, undo, redo, back, forth)

pub size : (n : ℕ) → 1 ≤ n → length (workload n) ≡ 2 + 2 * n + 2 * turns n
size (suc k) h =
    let parts = parts_size (suc k) in
    let first = first_size (suc k) k in
    omega (arith, parts, first)
size zero h = absurd (omega (arith, h))

few_turns : (n : ℕ) → turns n ≤ 100
few_turns n = omega (arith)

pub few : (n : ℕ) → n ≤ 400 → length (workload n) ≤ 1002
few zero h = omega (arith)
few (suc k) h =
    let all = size (suc k) (omega (arith)) in
    let t = few_turns (suc k) in
    omega (arith, all, t, h)
