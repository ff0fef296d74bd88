-- The slots of an occurrence, as numbers of 32 bits at a left side.
use Rattle.std.proofs.Common.{◌≡◌, ℕ, ◌+◌, ◌<◌, ◌^◌, Bool, true, false, cond, nat_lt, List, [], map, length, Option, Some, None, arith, refl, ap, subst, bytes_eq, ◌∙◌, length-append}
use Rattle.std.proofs.lemmas.Bool.Decides.{nat_tests}
use Rattle.std.proofs.lemmas.List.{length-map}
use Rattle.std.specs.Prelude.{option_map, slice_get, unwrap_or}
use Rattle.std.specs.List.{position, position_or_len}
use Rattle.sg_kinds.specs.Values.{Bytes}
use Rattle.sg_kinds.specs.Specification.{attrs_of, locals_of, phylum_of}
use Rattle.sg_kinds.specs.Typing.{attr_types, slots_there}
use Rattle.sg_kinds.specs.declared.spec.Attr.{Attr}
use Rattle.sg_kinds.specs.declared.spec.Operator.{Operator}
use Rattle.sg_kinds.specs.declared.spec.Local.{Local}
use Rattle.sg_names.specs.Drafted.{drafted}
use Rattle.sg_names.specs.declared.table.Table.{Table}
use Rattle.sg_names.specs.Lookups.{local}
use Rattle.sg_types.specs.Bindings.{own_slots, local_slot}
use Rattle.sg_equations.specs.Targets.{IsNarrow}

position_within : {X : Type 0} (p : X → Bool) (xs : List X) (k : ℕ) → position p xs ≡ Some k → k < length xs
position_within p xs k h = by (nat_lt (position_or_len p xs) (length xs)) refl h
  where
    by : (b : Bool) → nat_lt (position_or_len p xs) (length xs) ≡ b → cond b (Some (position_or_len p xs)) None ≡ Some k → k < length xs
    by true less is = let same : position_or_len p xs ≡ k = cc in let low : position_or_len p xs < length xs = grind (arith, nat_tests) in subst (λ n. n < length xs) same low
    by false less is = absurd (cc)

-- how many slots a left side has
slots_count : (t : Table) (op : ℕ) → length (slots_there (drafted t) op 0) ≡ own_slots t op + length (locals_of t.ops op)
slots_count t op = length-append (attr_types (drafted t) (phylum_of t.ops op)) (map (λ (l : Local). l.of) (locals_of t.ops op)) ∙ ap (λ n. own_slots t op + n) (length-map (locals_of t.ops op) (λ (l : Local). l.of))

pub slots_are : (t : Table) (op : ℕ) (o : Operator) → slice_get t.ops op ≡ Some o → length (slots_there (drafted t) op 0) ≡ length (attrs_of t.phyla o.phylum) + length o.locals
slots_are t op o there =
    let own : own_slots t op ≡ length (attrs_of t.phyla o.phylum) = ap (λ r. length (attr_types (drafted t) (option_map (λ (x : Operator). x.phylum) r))) there ∙ length-map (attrs_of t.phyla o.phylum) (λ (a : Attr). a.of) in
    let locals : length (locals_of t.ops op) ≡ length o.locals = ap (λ r. length (unwrap_or (option_map (λ (x : Operator). x.locals) r) [])) there in
    omega (arith, slots_count t op, own, locals)

pub no_slots : (t : Table) (op : ℕ) → slice_get t.ops op ≡ None → length (slots_there (drafted t) op 0) ≡ 0
no_slots t op there =
    let own : own_slots t op ≡ 0 = ap (λ r. length (attr_types (drafted t) (option_map (λ (x : Operator). x.phylum) r))) there in
    let locals : length (locals_of t.ops op) ≡ 0 = ap (λ r. length (unwrap_or (option_map (λ (x : Operator). x.locals) r) [])) there in
    omega (arith, slots_count t op, own, locals)

pub few_slots : (t : Table) (op : ℕ) → IsNarrow t → own_slots t op + length (locals_of t.ops op) < 2 ^ 32
few_slots t op narrow = omega (arith, slots_count t op, narrow.slots op)

-- the slot of a local is one of them
pub slot_fits : (t : Table) (op : ℕ) (name : Bytes) (slot : ℕ) → IsNarrow t → local_slot t op name ≡ Some slot → slot < 2 ^ 32
slot_fits t op name slot narrow is = by (local t op name) refl is
  where
    by : (k : Option ℕ) → local t op name ≡ k → option_map (λ k. own_slots t op + k) k ≡ Some slot → slot < 2 ^ 32
    by None e f = cc
    by (Some k) e f =
        let low : k < length (locals_of t.ops op) = position_within (λ (l : Local). bytes_eq name l.name) (locals_of t.ops op) k e in
        let same : own_slots t op + k ≡ slot = cc in
        omega (arith, low, same, slots_count t op, narrow.slots op)
