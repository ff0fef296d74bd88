-- What was written after a run was cut short, as a front of the whole output
use Rattle.std.proofs.Common.{◌≡◌, ◌≤◌, ℕ, ◌+◌, zero, suc, List, [], ◌∷◌, ◌++◌, length, take, get_or, refl, sym, ap, ◌∙◌, arith, length-append, append_assoc}
use Rattle.std.proofs.Math.Seq.{take-append-add}
use Rattle.sg_outside.specs.Sink.{CutShort, appended}
use Rattle.sg_output.specs.declared.status.Status.TheVariants.{SinkFault}
use Rattle.sg_output.specs.Output.{Output, joined}
use Rattle.sg_output.specs.World.{World, WroteCounted}

front_of : (m : ℕ) (xs ys : List ℕ) → (n : ℕ) × (n ≤ length (xs ++ ys)) × (take m xs ≡ take n (xs ++ ys))
front_of zero xs ys = (0, omega arith, refl)
front_of (suc m) [] ys = (0, omega arith, refl)
front_of (suc m) (x ∷ xs) ys = let p = front_of m xs ys in (suc p.0, omega (arith, p.1), ap (λ (v : List ℕ). x ∷ v) p.2)

-- k whole blocks and a front of the next are a front of all
front : (blocks : List (List ℕ)) (k m : ℕ) → (n : ℕ) × (n ≤ length (joined blocks)) × (joined (take k blocks) ++ take m (get_or blocks k []) ≡ take n (joined blocks))
front [] zero zero = (0, omega arith, refl)
front [] zero (suc m) = (0, omega arith, refl)
front [] (suc k) zero = (0, omega arith, refl)
front [] (suc k) (suc m) = (0, omega arith, refl)
front (b ∷ blocks) zero m = front_of m b (joined blocks)
front (b ∷ blocks) (suc k) m = let p = front blocks k m in (
  length b + p.0,
  omega (arith, p.1, length-append b (joined blocks)),
  append_assoc b (joined (take k blocks)) (take m (get_or blocks k [])) ∙ ap (λ (v : List ℕ). b ++ v) p.2 ∙ sym (take-append-add b (joined blocks) p.0),
)

pub cut_front : (old new : World) (t : Output) → WroteCounted SinkFault old new t → CutShort old.sink.written new.sink.written (joined t.blocks)
cut_front old new t c =
    let f = c.fault refl in
    let p = front t.blocks c.k f.front in
    (p.0, p.1, f.written ∙ ap (λ (v : List ℕ). appended old.sink.written v) p.2)
