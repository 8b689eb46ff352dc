-- The flags of getrandom(2).
use Rattle.std.specs.Prelude.{ℕ, ◌/◌, ◌%◌, Bool, not, ◌&&◌, ◌||◌, ◌==◌, nat_lt}

-- whether a read does not wait for the core to be ready
abbrev pub is_nonblock : ℕ → Bool
is_nonblock flags = flags % 2 == 1

-- whether a read may be served before the core is ready
abbrev pub is_insecure : ℕ → Bool
is_insecure flags = flags / 4 % 2 == 1

-- whether a flag is unknown, or GRND_RANDOM and GRND_INSECURE are set together
abbrev pub is_bad : ℕ → Bool
is_bad flags = not (nat_lt flags 8) || (flags / 2 % 2 == 1 && is_insecure flags)
