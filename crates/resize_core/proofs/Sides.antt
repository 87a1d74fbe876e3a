-- One side of a chain that is being unzipped, by the nodes that were passed.
use Rattle.std.proofs.Common.{◌≡◌, ◌≤◌, ℕ, suc, List, [], ◌∷◌, ◌++◌, length, take, drop, Bool, true, false, cond, Some, ap, ◌∙◌, append_assoc}
use Rattle.std.specs.List.{filter, slice_get}
use Rattle.std.proofs.Math.Seq.{take-suc, drop-cons}
use Rattle.std.proofs.lemmas.List.{append-nil, take_all, drop_all}
use Rattle.std.proofs.lemmas.List.Elements.{filter-append}
use Rattle.std.proofs.lemmas.Option.{slice_get_within, get_or_from_slice_get}
use Rattle.resize_core.specs.Unzip.{side_after}

-- the nodes up to one and that node
pub take_past : (nodes : List ℕ) (k node : ℕ) → slice_get nodes k ≡ Some node → take (suc k) nodes ≡ take k nodes ++ node ∷ []
take_past nodes k node at = take-suc nodes k node (slice_get_within nodes k node at) ∙ ap (λ n. take k nodes ++ n ∷ []) (get_or_from_slice_get nodes k node node at)

-- the nodes from one on
pub drop_from : (nodes : List ℕ) (k node : ℕ) → slice_get nodes k ≡ Some node → drop k nodes ≡ node ∷ drop (suc k) nodes
drop_from nodes k node at = drop-cons nodes k node (slice_get_within nodes k node at) ∙ ap (λ n. n ∷ drop (suc k) nodes) (get_or_from_slice_get nodes k node node at)

-- a side with one more node, which is its own or not
pub filter_mine : (belongs : ℕ → Bool) (passed : List ℕ) (node : ℕ) → belongs node ≡ true → filter belongs (passed ++ node ∷ []) ≡ filter belongs passed ++ node ∷ []
filter_mine belongs passed node mine = filter-append belongs passed (node ∷ []) ∙ ap (λ b. filter belongs passed ++ cond b (node ∷ []) []) mine

pub filter_other : (belongs : ℕ → Bool) (passed : List ℕ) (node : ℕ) → belongs node ≡ false → filter belongs (passed ++ node ∷ []) ≡ filter belongs passed
filter_other belongs passed node other = filter-append belongs passed (node ∷ []) ∙ ap (λ b. filter belongs passed ++ cond b (node ∷ []) []) other ∙ append-nil (filter belongs passed)

-- a side before the move at a node, after it where the node is its own, and after it where it is not
pub side_before : (belongs : ℕ → Bool) (nodes : List ℕ) (k node : ℕ) → slice_get nodes k ≡ Some node → side_after belongs k nodes ≡ filter belongs (take k nodes) ++ node ∷ drop (suc k) nodes
side_before belongs nodes k node at = ap (λ l. filter belongs (take k nodes) ++ l) (drop_from nodes k node at)

pub side_mine : (belongs : ℕ → Bool) (nodes : List ℕ) (k node : ℕ) → slice_get nodes k ≡ Some node → belongs node ≡ true → side_after belongs (suc k) nodes ≡ filter belongs (take k nodes) ++ node ∷ drop (suc k) nodes
side_mine belongs nodes k node at mine =
    ap (λ l. filter belongs l ++ drop (suc k) nodes) (take_past nodes k node at) ∙ ap (λ l. l ++ drop (suc k) nodes) (filter_mine belongs (take k nodes) node mine)
    ∙ append_assoc (filter belongs (take k nodes)) (node ∷ []) (drop (suc k) nodes)

pub side_other : (belongs : ℕ → Bool) (nodes : List ℕ) (k node : ℕ) → slice_get nodes k ≡ Some node → belongs node ≡ false → side_after belongs (suc k) nodes ≡ filter belongs (take k nodes) ++ drop (suc k) nodes
side_other belongs nodes k node at other =
    ap (λ l. filter belongs l ++ drop (suc k) nodes) (take_past nodes k node at) ∙ ap (λ l. l ++ drop (suc k) nodes) (filter_other belongs (take k nodes) node other)

-- a side when all nodes were passed
pub side_whole : (belongs : ℕ → Bool) (nodes : List ℕ) (k : ℕ) → length nodes ≤ k → side_after belongs k nodes ≡ filter belongs nodes
side_whole belongs nodes k all =
    ap (λ l. filter belongs l ++ drop k nodes) (take_all k nodes all) ∙ ap (λ l. filter belongs nodes ++ l) (drop_all k nodes all) ∙ append-nil (filter belongs nodes)
