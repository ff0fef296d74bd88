-- Bytes that are equal, and what differs at some bytes alone.
use Rattle.std.proofs.Common.{◌≡◌, ℕ, Bool, true, false, cond, bytes_eq, List, refl, sym, ◌∙◌}
use Rattle.std.proofs.lemmas.Cmp.{nat_list_eq_equiv}

pub apart : (bs cs ks : List ℕ) → bytes_eq bs cs ≡ false → bytes_eq bs ks ≡ true → bytes_eq cs ks ≡ false
apart bs cs ks n y = nat_list_eq_equiv.symm cs ks ∙ sym (nat_list_eq_equiv.congr bs ks cs y) ∙ n

-- what a change at some bytes leaves
pub by_case : {A : Type 0} (b : Bool) (x w y : A) → (b ≡ true → x ≡ w) → (b ≡ false → x ≡ y) → x ≡ cond b w y
by_case true x w y h k = h refl
by_case false x w y h k = k refl
