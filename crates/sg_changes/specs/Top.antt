-- The rule of a window's top.
use Rattle.std.specs.Prelude.{ℕ, ◌+◌, ◌-◌, nat_lt, if◌then◌else◌}

-- a top above the first line goes to it, and one from which it is not seen as far up as to show it last
abbrev pub topped : ℕ → ℕ → ℕ → ℕ
topped height first top = if nat_lt first top then first else
    (if nat_lt (top + height - 1) first then first - height + 1 else top)
