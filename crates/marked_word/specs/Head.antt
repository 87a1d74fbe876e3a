use Rattle.std.specs.Prelude.{ℕ, ◌+◌, ◌*◌, ◌/◌, ◌%◌, ◌==◌, Bool, Option}
use Rattle.std.specs.Int.{from_bool}
use Rattle.std.specs.Option.{option_map}
use Rattle.marked_word.specs.declared.head.Head.{Head}
use Rattle.marked_word.specs.Link.{link_word, link_of, node_of}

-- the word of a head: its link times 4, plus 2 where it is redirected, plus 1 where it is locked
abbrev pub head_word : Head → ℕ
head_word head = 4 * link_word head.node + 2 * from_bool head.redirect + from_bool head.lock

-- the head of a word, if what it has from bit 2 on is a link
abbrev pub head_of : ℕ → Option Head
head_of word = option_map (λ node. record { node = node; lock = word % 2 == 1; redirect = word / 2 % 2 == 1 }) (link_of (word / 4))

-- what a head's word says: whether it is locked, whether it is redirected, and its first node
abbrev pub is_locked : ℕ → Bool
is_locked word = word % 2 == 1

abbrev pub is_redirected : ℕ → Bool
is_redirected word = word / 2 % 2 == 1

abbrev pub first_of : ℕ → Option ℕ
first_of word = node_of (word / 4)

-- the word of the same head with its lock set
abbrev pub locked : ℕ → ℕ
locked word = word + 1
