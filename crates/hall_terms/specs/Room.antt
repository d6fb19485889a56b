-- own: how many clients are served at once.
use Rattle.std.specs.Prelude.{◌<◌, ◌/◌, ℕ, max}

-- of so many clients so many may be ones on whose connection nobody is signed in: a tenth, and at least one
abbrev pub most_strangers : ℕ → ℕ
most_strangers clients = max 1 (clients / 10)

-- of so many places so many are taken, so many of them by strangers, and one more may come, who is a stranger at first
pub record HasRoom (places taken strangers : ℕ) : Type 0 where
  pub place : taken < places
  pub stranger : strangers < most_strangers places
