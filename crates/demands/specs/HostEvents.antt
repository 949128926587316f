-- A chip that keeps time, for a C host, which holds it as 72 bytes: the same events, as calls on the bytes.
use Rattle.std.specs.Prelude.{Bool, cond, List, [], ◌∷◌, ℕ, ◌+◌, ◌<◌}
use Rattle.saved.specs.Record.{byte_at}
use Rattle.mc146818.specs.Calls as host
use Rattle.demands.specs.Events.{Event, runs, reads, levels, writes}

-- Host interface: RESET is bit 0 of the levels and PS bit 1.
abbrev pub levels_word : Bool → Bool → ℕ
levels_word reset ps = cond reset 1 0 + cond ps 2 0

-- Calls and their refusals: the bytes that a call leaves.
abbrev pub host_after : Event → List ℕ → List ℕ
host_after (runs n) bytes = (host.run bytes n).bytes
host_after (reads address) bytes = (host.read bytes address).bytes
host_after (levels reset ps) bytes = (host.pins bytes (levels_word reset ps)).bytes
host_after (writes address value) bytes = (host.write bytes address value).bytes

-- Calls and their refusals: and a list of calls, one after the other.
abbrev pub host_after_all : List Event → List ℕ → List ℕ
host_after_all [] bytes = bytes
host_after_all (e ∷ es) bytes = host_after_all es (host_after e bytes)

-- Host interface: what C calls bytes.
abbrev pub AreBytes : List ℕ → Type 0
AreBytes l = (k : ℕ) → byte_at l k < 256
