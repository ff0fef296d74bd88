-- A shelf in memory that never fails
use Rattle.std.specs.Prelude.{ℕ, refl}
use Rattle.std.specs.Coded.{Coded, code_by, coded×, coded_ℕ}
use Rattle.sg_outside.specs.Count.{Calls}
use Rattle.sg_outside.specs.Shelf.{Files, files_code}

pub record UnfailingShelf : Type 0 where
  pub files : Files
  -- the calls that there were
  pub calls : Calls

-- it is stored as the pairs of its parts
abbrev pub unfailing_shelf_code : Coded UnfailingShelf
unfailing_shelf_code =
    code_by (Files × (ℕ × ℕ)) (coded× files_code (coded× coded_ℕ coded_ℕ)) (λ s. (s.files, (s.calls.answered, s.calls.unanswered)))
    (λ p. record { files = p.0; calls = record { answered = p.1.0; unanswered = p.1.1 } }) (λ _. refl)
