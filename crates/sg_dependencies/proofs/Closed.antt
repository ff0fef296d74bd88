-- What a closed relation joins, and what paths join.
use Rattle.std.specs.Prelude.{◌≡◌, ◌↔◌, ◌⊎◌, ℕ, Bool, List}
use Rattle.std.proofs.Common.{subst, inl, inr}
use Rattle.sg_sets.specs.Paths.{Path, IsTransitive}
use Rattle.sg_sets.specs.Rows.{Holds}
use Rattle.sg_sets.proofs.CloseLemmas.{Holds-path}
use Rattle.sg_dependencies.specs.Frames.{Spot}
use Rattle.sg_dependencies.specs.Induced.{relation_at}
use Rattle.sg_dependencies.specs.Rounds.{IsJoined}

pub record IsClosureOf (rows closed : List (List Bool)) : Type 0 where
  pub contains : (a b : ℕ) → Holds rows a b → Holds closed a b
  pub transitive : IsTransitive (Holds closed)
  pub least : (a b : ℕ) → Holds closed a b → Path (Holds rows) a b

pub joined_wider : (spots : List Spot) (R S : ℕ → ℕ → Type 0) → ((a b : ℕ) → R a b → S a b) → (X a b : ℕ) → IsJoined spots R X a b → IsJoined spots S X a b
joined_wider spots R S wider X a b is =
    let m = is.met in
    record { spot = is.spot; stands = is.stands; phylum = is.phylum; met = record { a_there = m.a_there; b_there = m.b_there; related = wider _ _ m.related } }

pub joined_by_paths : (spots : List Spot) (rows copied closed : List (List Bool)) (old new : List (List (List Bool))) → copied ≡ rows → IsClosureOf copied closed
    → ((X a b : ℕ) → Holds (relation_at new X) a b ↔ (Holds (relation_at old X) a b ⊎ IsJoined spots (Holds closed) X a b))
    → (X a b : ℕ) → Holds (relation_at new X) a b ↔ (Holds (relation_at old X) a b ⊎ IsJoined spots (Path (Holds rows)) X a b)
joined_by_paths spots rows copied closed old new same is gathers X a b =
    let c : IsClosureOf rows closed = subst (λ r. IsClosureOf r closed) same is in (
      λ h. elim ((gathers X a b).0 h) [ inl was ↦ inl was | inr joined ↦ inr (joined_wider spots (Holds closed) (Path (Holds rows)) c.least X a b joined) ],
      λ h. elim h [ inl was ↦ (gathers X a b).1 (inl was) | inr joined ↦ (gathers X a b).1 (inr (joined_wider spots (Path (Holds rows)) (Holds closed) (Holds-path rows closed c.contains c.transitive) X a b joined)) ],
    )
