-- The calls of a form in memory are numbered from 1, and those whose numbers are listed fail.
use Rattle.std.specs.Prelude.{ℕ, ◌+◌, ◌-◌, ◌^◌, ◌&&◌, min, nat_eq, nat_lt, Bool, List}
use Rattle.std.specs.List.{list_any}

-- how many calls were made, once there is one more; the count stops at the last value of its type
abbrev pub one_more_call : ℕ → ℕ
one_more_call made = min (made + 1) (2 ^ 64 - 1)

-- Whether the call behind so many is listed. Where the count has stopped no call is.
abbrev pub is_listed : List ℕ → ℕ → Bool
is_listed fail made = nat_lt made (2 ^ 64 - 1) && list_any (λ n. nat_eq n (made + 1)) fail
