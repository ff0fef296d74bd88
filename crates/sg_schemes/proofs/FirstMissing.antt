-- The operator that is found without a scheme is the first one of a shown phylum.
use Rattle.std.proofs.Common.{◌≡◌, ℕ, zero, suc, ◌+◌, ◌-◌, ◌<◌, ◌≤◌, ◌⊎◌, inl, inr, Bool, true, false, not, ◌&&◌, ◌||◌, if◌then◌else◌, List, [], ◌∷◌, length, set, get_or, replicate, Option, Some, None, slice_get, nat_eq, option_map, unwrap_or, refl, sym, ap, ◌∙◌, subst, arith}
use Rattle.std.specs.Prelude.{max, Result, Ok, Err, IfOk}
use Rattle.std.specs.List.{Contains, list_any}
use Rattle.std.proofs.lemmas.Bool.{and_parts, cases_lt}
use Rattle.std.proofs.lemmas.Bool.Decides.{nat_tests}
use Rattle.std.proofs.Math.Nat.{le-max_left, le-max_right}
use Rattle.std.proofs.lemmas.Option.{slice_get_within}
use Rattle.sg_kinds.specs.Specification.{args_of}
use Rattle.sg_kinds.specs.Sound.{IsShown}
use Rattle.sg_kinds.specs.declared.spec.Operator.{Operator}
use Rattle.sg_kinds.specs.declared.fault.SpecFault.{SpecFault}
use Rattle.sg_kinds.proofs.Elementary.{not_true, or_false}
use Rattle.sg_ast.specs.Declarations.{Decl, Schemes}
use Rattle.sg_names.specs.Drafted.{drafted}
use Rattle.sg_names.specs.Lookups.{operator_at}
use Rattle.sg_names.specs.declared.table.Table.{Table}
use Rattle.sg_schemes.specs.ShownFlags.{flag, past, past_all, width, shown, give_to, give, give_all, given, fault_at, is_missing, missing_from, no_scheme}
use Rattle.sg_schemes.specs.NoScheme.{gives, LacksScheme, IsNoScheme, all_have, first_lacks}
use Rattle.sg_schemes.proofs.Least.{only_shown, all_shown, length_set, length_false}

-- the root and each argument have a flag
past_in : (ps : List ℕ) (k q : ℕ) → k < length ps → get_or ps k q ≡ q → q < past ps
past_in [] k q low is = absurd (omega (arith, low))
past_in (p ∷ ps) zero q low is = let a : suc p ≤ max (suc p) (past ps) = le-max_left (suc p) (past ps) in omega (arith, is, a)
past_in (p ∷ ps) (suc k) q low is = let a : past ps ≤ max (suc p) (past ps) = le-max_right (suc p) (past ps) in let b : q < past ps = past_in ps k q (omega (arith, low)) is in omega (arith, a, b)

past_at : (ops : List Operator) (op q : ℕ) → Contains (args_of ops op) q → q < past_all ops
past_at [] op q c = absurd (omega (arith, c.1))
past_at (o ∷ ops) zero q c = let a : past o.args ≤ max (past o.args) (past_all ops) = le-max_left (past o.args) (past_all ops) in let b : q < past o.args = past_in o.args c.0 q c.1 c.2 in omega (arith, a, b)
past_at (o ∷ ops) (suc op) q c = let a : past_all ops ≤ max (past o.args) (past_all ops) = le-max_right (past o.args) (past_all ops) in let b : q < past_all ops = past_at ops op q c in omega (arith, a, b)

-- the flags are those of the shown phyla
pub flag_shown : (t : Table) {p : ℕ} → IsShown (drafted t) p → flag (shown t) p ≡ true
flag_shown t is =
    all_shown (drafted t) (width t) (let a : suc t.root ≤ max (suc t.root) (past_all t.ops) = le-max_left (suc t.root) (past_all t.ops) in omega (arith, a))
    (λ op q c. (let a : past_all t.ops ≤ max (suc t.root) (past_all t.ops) = le-max_right (suc t.root) (past_all t.ops) in let b : q < past_all t.ops = past_at t.ops op q c in omega (arith, a, b))) is

pub shown_flag : (t : Table) (p : ℕ) → flag (shown t) p ≡ true → IsShown (drafted t) p
shown_flag t p up = only_shown (drafted t) (width t) p up

-- the flags of the operators are those of the ones that have schemes
suc_zero : (k : ℕ) → nat_eq (suc k) 0 ≡ false
suc_zero k = grind (arith, nat_tests)

zero_suc : (k : ℕ) → nat_eq 0 (suc k) ≡ false
zero_suc k = grind (arith, nat_tests)

suc_suc : (k j : ℕ) → nat_eq (suc k) (suc j) ≡ nat_eq k j
suc_suc k j = grind (arith, nat_tests)

flag_set : (F : List Bool) (j k : ℕ) → k < length F → flag (set F j true) k ≡ (nat_eq k j || flag F k)
flag_set [] j k low = absurd (omega (arith, low))
flag_set (b ∷ F) zero zero low = refl
flag_set (b ∷ F) zero (suc k) low = ap (λ c. c || flag F k) (sym (suc_zero k))
flag_set (b ∷ F) (suc j) zero low = ap (λ c. c || b) (sym (zero_suc j))
flag_set (b ∷ F) (suc j) (suc k) low = flag_set F j k (omega (arith, low)) ∙ ap (λ c. c || flag F k) (sym (suc_suc k j))

give_flag : (F : List Bool) (k : ℕ) (o : Option ℕ) → k < length F → flag (give_to F o) k ≡ (unwrap_or (option_map (nat_eq k) o) false || flag F k)
give_flag F k None low = refl
give_flag F k (Some j) low = flag_set F j k low

give_length : (F : List Bool) (o : Option ℕ) → length (give_to F o) ≡ length F
give_length F None = refl
give_length F (Some j) = length_set F j

step_flag : (t : Table) (F : List Bool) (d : Decl) (k : ℕ) → k < length F → flag (give t F d) k ≡ (gives t k d || flag F k)
step_flag t F (Schemes p op None ss) k low = give_flag F k (operator_at t p op) low
step_flag t F d k low = refl

step_length : (t : Table) (F : List Bool) (d : Decl) → length (give t F d) ≡ length F
step_length t F (Schemes p op None ss) = give_length F (operator_at t p op)
step_length t F d = refl

or_moved : (a b c : Bool) → (b || (a || c)) ≡ ((a || b) || c)
or_moved true true c = refl
or_moved true false c = refl
or_moved false b c = refl

all_flag : (t : Table) (F : List Bool) (ds : List Decl) (k : ℕ) → k < length F → flag (give_all t F ds) k ≡ (list_any (gives t k) ds || flag F k)
all_flag t F [] k low = refl
all_flag t F (d ∷ ds) k low =
    let l : length (give t F d) ≡ length F = step_length t F d in
    all_flag t (give t F d) ds k (omega (arith, l, low)) ∙ ap (λ b. list_any (gives t k) ds || b) (step_flag t F d k low) ∙ or_moved (gives t k d) (list_any (gives t k) ds) (flag F k)

none_flag : (n k : ℕ) → flag (replicate n false) k ≡ false
none_flag zero k = refl
none_flag (suc n) zero = refl
none_flag (suc n) (suc k) = none_flag n k

pub given_is : (t : Table) (ds : List Decl) (k : ℕ) → k < length t.ops → flag (given t ds) k ≡ list_any (gives t k) ds
given_is t ds k low =
    let l : length (replicate (length t.ops) false) ≡ length t.ops = length_false (length t.ops) in
    all_flag t (replicate (length t.ops) false) ds k (omega (arith, l, low)) ∙ ap (λ b. list_any (gives t k) ds || b) (none_flag (length t.ops) k) ∙ or_false (list_any (gives t k) ds)

module _ (t : Table) (ds : List Decl) where
  both : (a b : Bool) → a ≡ true → b ≡ false → (a && not b) ≡ true
  both true false h k = refl
  both true true h k = absurd (cc k)
  both false b h k = absurd (cc h)

  missing : (k : ℕ) (o : Operator) → LacksScheme t ds k o → is_missing (shown t) (given t ds) k o ≡ true
  missing k o lacks = both (flag (shown t) o.phylum) (flag (given t ds) k) (flag_shown t lacks.shown) (given_is t ds k (slice_get_within t.ops k o lacks.there) ∙ lacks.none)

  lacks_there : (k : ℕ) (o : Operator) → slice_get t.ops k ≡ Some o → is_missing (shown t) (given t ds) k o ≡ true → LacksScheme t ds k o
  lacks_there k o at is =
      let parts = and_parts (flag (shown t) o.phylum) (not (flag (given t ds) k)) is in
      record {
        there = at;
        shown = shown_flag t o.phylum parts.0;
        none = sym (given_is t ds k (slice_get_within t.ops k o at)) ∙ not_true (flag (given t ds) k) parts.1;
      }

  scan : (k : ℕ) (ops : List Operator) → ((i : ℕ) → slice_get t.ops (k + i) ≡ slice_get ops i) → ((j : ℕ) (x : Operator) → j < k → LacksScheme t ds j x → ⊥) → IsNoScheme t ds (missing_from t (shown t) (given t ds) k ops)
  scan k [] rest before = all_have none refl
    where
      none : (j : ℕ) (x : Operator) → LacksScheme t ds j x → ⊥
      none j x lacks = by (cases_lt j k)
        where
          by : (j < k) ⊎ (k ≤ j) → ⊥
          by (inl low) = before j x low lacks
          by (inr high) = let e : k + (j - k) ≡ j = omega (arith, high) in cc (sym (rest (j - k)) ∙ ap (slice_get t.ops) e ∙ lacks.there)
  scan k (o ∷ ops) rest before = by (is_missing (shown t) (given t ds) k o) refl (λ fine. scan (suc k) ops later (none_here fine))
    where
      here : slice_get t.ops k ≡ Some o
      here = let e : k + 0 ≡ k = omega arith in ap (slice_get t.ops) (sym e) ∙ rest 0

      later : (i : ℕ) → slice_get t.ops (suc k + i) ≡ slice_get ops i
      later i = let e : k + suc i ≡ suc k + i = omega arith in ap (slice_get t.ops) (sym e) ∙ rest (suc i)

      none_here : is_missing (shown t) (given t ds) k o ≡ false → (j : ℕ) (x : Operator) → j < suc k → LacksScheme t ds j x → ⊥
      none_here fine j x low lacks = at (cases_lt j k)
        where
          at : (j < k) ⊎ (k ≤ j) → ⊥
          at (inl below) = before j x below lacks
          at (inr high) =
              let e : j ≡ k = omega (arith, low, high) in
              let same : x ≡ o = cc (sym lacks.there ∙ ap (slice_get t.ops) e ∙ here) in
              cc (sym (missing j x lacks) ∙ ap (λ i. is_missing (shown t) (given t ds) i x) e ∙ ap (is_missing (shown t) (given t ds) k) same ∙ fine)

      by : (b : Bool) → is_missing (shown t) (given t ds) k o ≡ b → (is_missing (shown t) (given t ds) k o ≡ false → IsNoScheme t ds (missing_from t (shown t) (given t ds) (suc k) ops))
          → IsNoScheme t ds (if b then fault_at t k o else missing_from t (shown t) (given t ds) (suc k) ops)
      by true is more = first_lacks k o (lacks_there k o here is) before refl
      by false is more = more is

  pub no_scheme_is : IsNoScheme t ds (no_scheme t ds)
  no_scheme_is = scan 0 t.ops (λ i. (let e : 0 + i ≡ i = omega arith in ap (slice_get t.ops) e)) (λ j x low. absurd (omega (arith, low)))

  -- there is one answer
  pub one_answer : (a b : Option SpecFault) → IsNoScheme t ds a → IsNoScheme t ds b → a ≡ b
  one_answer a b (all_have none e) (all_have other f) = e ∙ sym f
  one_answer a b (all_have none e) (first_lacks k o lacks before f) = absurd (none k o lacks)
  one_answer a b (first_lacks k o lacks before e) (all_have none f) = absurd (none k o lacks)
  one_answer a b (first_lacks k o lacks before e) (first_lacks j x other first f) = by (cases_lt k j) (cases_lt j k)
    where
      by : (k < j) ⊎ (j ≤ k) → (j < k) ⊎ (k ≤ j) → a ≡ b
      by (inl low) c = absurd (first k o low lacks)
      by (inr high) (inl low) = absurd (before j x low other)
      by (inr high) (inr most) =
          let same : k ≡ j = omega (arith, high, most) in
          let op : o ≡ x = cc (sym lacks.there ∙ ap (slice_get t.ops) same ∙ other.there) in
          e ∙ ap (λ i. fault_at t i o) same ∙ ap (fault_at t j) op ∙ sym f

-- an answer that is computed is the answer
pub answers : {E : Type 0} (t : Table) (ds : List Decl) (r : Result (Option SpecFault) E) → IfOk r (λ f. f ≡ no_scheme t ds) → IfOk r (IsNoScheme t ds)
answers t ds (Ok f) e = subst (IsNoScheme t ds) (sym e) (no_scheme_is t ds)
answers t ds (Err f) e = tt
