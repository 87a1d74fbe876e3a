use Rattle.std.specs.Prelude.{ℕ, zero, suc, ◌+◌, ◌^◌, Option, Some, None, nat_le, if◌then◌else◌}

-- the word of a link: 0 for no node, else the node plus 1
abbrev pub link_word : Option ℕ → ℕ
link_word None = 0
link_word (Some node) = node + 1

-- the node that a link's word names, if any
abbrev pub node_of : ℕ → Option ℕ
node_of zero = None
node_of (suc node) = Some node

-- the link of a word, if it is one: a node is below 2 ^ 32
abbrev pub link_of : ℕ → Option (Option ℕ)
link_of word = if nat_le word (2 ^ 32) then Some (node_of word) else None
