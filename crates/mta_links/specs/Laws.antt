-- What follows for whoever reads a link with call after call.
use Rattle.std.specs.Prelude.{ℕ, ◌+◌, ◌≡◌, List, ◌++◌, take}
use Rattle.mta_links.specs.Links.{Gets, Talk}

-- What a peer gives is one list of octets: a call moves the border between what was got of it and what is left.
abbrev pub OneInput : Type 0
OneInput = (n : ℕ) (into : List ℕ) (f g : Talk) → Gets n into f g → g.got ++ g.left ≡ f.got ++ f.left

-- Two calls get what one call of both lengths would.
abbrev pub InOrder : Type 0
InOrder = (n m : ℕ) (into next : List ℕ) (f g h : Talk) → Gets n into f g → Gets m next g h
    → h.got ≡ f.got ++ take (n + m) f.left
