-- Commands that only choose among the buffers.
use Rattle.std.specs.Prelude.{◌≡◌, refl, ℕ, ◌<◌, Bool, true, false, cond, nat_lt, [], map, length, is_some, if◌then◌else◌, Option, Some, None, option_map}
use Rattle.std.specs.List.{position_or_len}
use Rattle.std.specs.Option.{option_map_or}
use Rattle.std.proofs.Common.{sym, ap, ◌∙◌, subst, arith}
use Rattle.std.proofs.lemmas.List.{length-map}
use Rattle.std.proofs.lemmas.Option.{none-some, same_Some}
use Rattle.sg_kinds.specs.Values.{Bytes}
use Rattle.sg_kinds.specs.declared.spec.Spec.{Spec}
use Rattle.sg_script.specs.declared.message.Message.TheVariants as message
use Rattle.sg_states.specs.States.{State}
use Rattle.sg_editor.specs.declared.desk.Named.{Named}
use Rattle.sg_editor.specs.Ask.{Step, says, shows, switches}
use Rattle.sg_editor.specs.Editing.{IsKept, Kept, current_in, session_in, told}
use Rattle.sg_editor.specs.Session.{buffer_named, has_name}
use Rattle.sg_editor.specs.Steps.{Took}
use Rattle.sg_editor.proofs.Taken.{said}
use Rattle.sg_editor.proofs.Told.{current_told}

-- the step of a switch, by the place of the name
abbrev switched : Kept → Option ℕ → Step
switched k o = option_map_or (λ (i : ℕ). says (record (session_in k) { current = Some i }) message.Fine) o (says (session_in k) message.NoBuffer)

below_test : (a b : ℕ) → nat_lt a b ≡ true → a < b
below_test a b test = grind arith

place_low : (i n m : ℕ) → Some i ≡ cond (nat_lt n m) (Some n) None → i < m
place_low i n m = by (nat_lt n m) refl
  where
    by : (b : Bool) → nat_lt n m ≡ b → Some i ≡ cond b (Some n) None → i < m
    by true test some = let less = below_test n m test in let same = same_Some i n some in omega (arith, less, same)
    by false test some = absurd (none-some i (sym some))

module _ (k : Kept) (name : Bytes) where
  pub switch_none : None ≡ buffer_named name (session_in k) → Took (switches name (session_in k)) k message.NoBuffer []
  switch_none none = subst (λ (o : Option ℕ). Took (switched k o) k message.NoBuffer []) none (said k (session_in k) message.NoBuffer [] refl refl)

  pub switch_some : (i : ℕ) → Some i ≡ buffer_named name (session_in k) → Took (switches name (session_in k)) (record k { current = Some i }) message.Fine []
  switch_some i some = subst (λ (o : Option ℕ). Took (switched k o) (record k { current = Some i }) message.Fine []) some
      (said (record k { current = Some i }) (record (session_in k) { current = Some i }) message.Fine [] refl refl)

  pub switch_kept : (i : ℕ) → Some i ≡ buffer_named name (session_in k) → (spec : Spec) (height : ℕ) → IsKept spec height k → IsKept spec height (record k { current = Some i })
  switch_kept i some spec height kept = record {
    over = kept.over;
    current =
        let n = place_low i (position_or_len (has_name name) (map told k.buffers)) (length (map told k.buffers)) some in
        let e = length-map k.buffers told in
        omega (arith, n, e);
    clip = kept.clip;
  }

pub shown : (k : Kept) (o : Option Named) → current_in k ≡ o → Took (shows (session_in k)) k (if is_some o then message.Fine else message.NoBuffer) []
shown k o here =
    subst (λ (x : Option (Bytes × State)). Took (says (session_in k) (if is_some x then message.Fine else message.NoBuffer)) k (if is_some o then message.Fine else message.NoBuffer) [])
    (sym (current_told k ∙ ap (option_map told) here)) (by o)
  where
    by : (o : Option Named) → Took (says (session_in k) (if is_some (option_map told o) then message.Fine else message.NoBuffer)) k (if is_some o then message.Fine else message.NoBuffer) []
    by None = said k (session_in k) message.NoBuffer [] refl refl
    by (Some b) = said k (session_in k) message.Fine [] refl refl
