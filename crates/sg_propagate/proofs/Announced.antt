-- What became of a value is noted.
use Rattle.std.specs.Prelude.{◌≡◌, ◌≢◌, ◌↔◌, ◌⊎◌, ℕ, Contains, Ok, Err}
use Rattle.std.proofs.Common.{refl, sym, subst, inl, inr}
use Rattle.sg_forest.specs.declared.node_id.NodeId.{NodeId}
use Rattle.sg_propagate.specs.Worklist.{Worklist}
use Rattle.sg_propagate.specs.Moves.{Announces}
use Rattle.sg_propagate.proofs.Staged.{more_itself}

module _ {A E : Type 0} (n node : NodeId) (slot before now : ℕ) where
  pub announced_same : (w : Worklist) (y : A) → before ≡ now → Announces {A = A} {E = E} w w n node slot before now (Ok y)
  announced_same w y same = record { more = more_itself w; noted = λ differs. absurd (differs same); awake = λ differs above. absurd (differs same); only = λ x has. inl has }

  pub announce_refused : (old new : Worklist) (e : E) → Announces {A = A} {E = E} old new n node slot before now (Err e)
  announce_refused old new e = record { more = tt; noted = tt; awake = tt; only = tt }

  module _ (old mid : Worklist) (y : A) (differs : before ≢ now) (noted : (x : ℕ × ℕ) → Contains mid.changed x ↔ (Contains old.changed x ⊎ (x ≡ (node.key, slot)))) (active : mid.active ≡ old.active) where
    pub announced_own : node ≡ n → Announces {A = A} {E = E} old mid n node slot before now (Ok y)
    announced_own same = record {
      more = record { changed = λ x has. (noted x).1 (inl has); active = λ k has. subst (λ ks. Contains ks k) (sym active) has };
      noted = λ other. (noted (node.key, slot)).1 (inr refl);
      awake = λ other above. absurd (above same);
      only = λ x has. elim ((noted x).0 has) [ inl was ↦ inl was | inr is ↦ inr (differs, is) ];
    }

    pub announced_below : (new : Worklist) → ((k : ℕ) → Contains new.active k ↔ (Contains mid.active k ⊎ (k ≡ node.key))) → new.changed ≡ mid.changed → Announces {A = A} {E = E} old new n node slot before now (Ok y)
    announced_below new awake same = record {
      more = record { changed = λ x has. subst (λ ks. Contains ks x) (sym same) ((noted x).1 (inl has)); active = λ k has. (awake k).1 (inl (subst (λ ks. Contains ks k) (sym active) has)) };
      noted = λ other. subst (λ ks. Contains ks (node.key, slot)) (sym same) ((noted (node.key, slot)).1 (inr refl));
      awake = λ other above. (awake node.key).1 (inr refl);
      only = λ x has. elim ((noted x).0 (subst (λ ks. Contains ks x) same has)) [ inl was ↦ inl was | inr is ↦ inr (differs, is) ];
    }
