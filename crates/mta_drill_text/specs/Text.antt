-- What a drill prints.
use Rattle.std.specs.Prelude.{ℕ, zero, suc, ◌+◌, ◌*◌, ◌%◌, List, [], ◌∷◌, ◌++◌, codes}
use Rattle.std.specs.Fmt.{decimal}
use Rattle.mta_drill_text.specs.Breaks.{breaks_up_to}

-- how many octets the content of a message has
abbrev pub content_length : ℕ → ℕ
content_length i = 1500 + (i * 7919) % 2003

-- how many octets the contents of the messages from 1 up to this one have
unfoldable pub octets_up_to : ℕ → ℕ
octets_up_to zero = 0
octets_up_to (suc n) = octets_up_to n + content_length (suc n)

-- a word and a number
unfoldable pub line : List ℕ → ℕ → List ℕ
line word n = word ++ (32 ∷ decimal n ++ 10 ∷ [])

-- the lines of counts
unfoldable pub text_of : (messages accepted transferred delivered broken octets : ℕ) → List ℕ
text_of messages accepted transferred delivered broken octets =
    line (codes "drill") messages ++ (line (codes "accepted") accepted ++ (line (codes "transferred") transferred
    ++ (line (codes "delivered") delivered ++ (line (codes "broken") broken ++ line (codes "octets") octets))))

-- the lines of a drill of so many messages: each of them was accepted, transferred and delivered, and the link was
-- broken where it is to be
abbrev pub drill_text : ℕ → List ℕ
drill_text n = text_of n n n n (breaks_up_to n) (octets_up_to n)
