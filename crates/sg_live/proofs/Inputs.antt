-- What was read of an input
use Rattle.std.proofs.Common.{◌≡◌, ℕ, List, [], ◌∷◌, ◌++◌, Option, Some, None, refl, ap, subst, append_assoc}
use Rattle.std.specs.Io.BufRead.{drop_through}
use Rattle.sg_console.specs.declared.console.Taken.TheVariants.{Line, Long, End}
use Rattle.sg_console.specs.Console.{Event, IsTaken}
use Rattle.sg_console.specs.Console.Event.{Took, Passed, Ended, Put}
use Rattle.sg_live.specs.Outside.{AreRead, IsRead, WasRead, all_noted, most_bytes}

pub all_noted-append : (xs ys : List Event) (h : Option (List Event)) → all_noted ys (all_noted xs h) ≡ all_noted (xs ++ ys) h
all_noted-append xs ys None = refl
all_noted-append xs ys (Some h) = ap (λ (l : List Event). Some l) (append_assoc h xs ys)

AreRead-append : (es fs : List Event) (input middle left : List ℕ) → AreRead input es middle → AreRead middle fs left → AreRead input (es ++ fs) left
AreRead-append [] fs input middle left h k = let P : List ℕ → Type 0 = λ l. AreRead l fs left in subst P h k
AreRead-append (Took line ∷ es) fs input middle left h k = (h.0, AreRead-append es fs (drop_through 10 input) middle left h.1 k)
AreRead-append (Passed ∷ es) fs input middle left h k = (h.0, AreRead-append es fs (drop_through 10 input) middle left h.1 k)
AreRead-append (Ended ∷ es) fs input middle left h k = (h.0, AreRead-append es fs input middle left h.1 k)
AreRead-append (Put piece ∷ es) fs input middle left h k = AreRead-append es fs input middle left h k

pub read_then : (es fs : List Event) (a b c : Option (List ℕ)) → IsRead a es b → IsRead b fs c → IsRead a (es ++ fs) c
read_then es fs None b c h k = tt
read_then es fs (Some input) b c h k =
    let P : Option (List ℕ) → Type 0 = λ o. IsRead o fs c in
    let m = subst P h.2 k in
    (m.0, AreRead-append es fs input h.0 m.0 h.1 m.1, m.2)

pub read_last : (es fs : List Event) (a b : Option (List ℕ)) → IsRead a es b → WasRead b fs → WasRead a (es ++ fs)
read_last es fs None b h k = tt
read_last es fs (Some input) b h k =
    let P : Option (List ℕ) → Type 0 = λ o. WasRead o fs in
    let m = subst P h.2 k in
    (m.0, AreRead-append es fs input h.0 m.0 h.1 m.1)

pub read_nothing : (a : Option (List ℕ)) → IsRead a [] a
read_nothing None = tt
read_nothing (Some input) = (input, refl, refl)

pub was_read : (es : List Event) (a b : Option (List ℕ)) → IsRead a es b → WasRead a es
was_read es None b h = tt
was_read es (Some input) b h = (h.0, h.1)

-- what was written is no part of it
pub was_put : (piece : List ℕ) (a : Option (List ℕ)) → WasRead a (Put piece ∷ [])
was_put piece None = tt
was_put piece (Some input) = (input, refl)

-- a line, one that was too long, and the end
pub read_took : (a b : Option (List ℕ)) (line : List ℕ) → IsTaken most_bytes a b line Line → IsRead a (Took line ∷ []) b
read_took None b line t = tt
read_took (Some input) b line t = (drop_through 10 input, (t.given.3, refl), t.rest)

pub read_passed : (a b : Option (List ℕ)) (line : List ℕ) → IsTaken most_bytes a b line Long → IsRead a (Passed ∷ []) b
read_passed None b line t = tt
read_passed (Some input) b line t = (drop_through 10 input, (t.given.1, refl), t.rest)

pub read_ended : (a b : Option (List ℕ)) (line : List ℕ) → IsTaken most_bytes a b line End → WasRead a (Ended ∷ [])
read_ended None b line t = tt
read_ended (Some input) b line t = (input, (t.given.1, refl))
