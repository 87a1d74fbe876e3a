-- The steps of each kind, and that each of them keeps a table that backs it.
use Rattle.std.proofs.Common.{◌≡◌}
use Rattle.atomic_step.specs.declared.access.StepKind.{StepKind}
use Rattle.atomic_step.specs.declared.access.StepKind.TheVariants.{K1, K2, K3, K4, K5, K6, K7, K8, K9, K10, K11, K12, K13, K14, K15, K16, K17, K18, K19, K20, K21, K22, K23, K24, K25, K26}
use Rattle.atomic_step.specs.declared.step.Step.{Step}
use Rattle.atomic_step.specs.declared.step.Step.TheVariants as step
use Rattle.atomic_step.specs.Step.{access_of}
use Rattle.cht_core.specs.Backs.{KeepsTable}
use Rattle.cht_core.proofs.CountSteps.{see_entry_keeps, see_handle_keeps, take_entry_keeps, change_entry_keeps}
use Rattle.cht_core.proofs.Creates.{create_entry_keeps}
use Rattle.cht_core.proofs.EndsUnzip.{unlock_head_keeps}
use Rattle.cht_core.proofs.Loads.{load_draws_keeps, load_counter_keeps, load_level_keeps, load_new_level_keeps, load_head_keeps, load_link_keeps, load_meta_keeps, load_text_keeps, load_count_keeps, load_section_keeps}
use Rattle.cht_core.proofs.Joins.{join_chains_keeps}
use Rattle.cht_core.proofs.Locking.{lock_head_keeps}
use Rattle.cht_core.proofs.LockSteps.{take_resize_lock_keeps, give_resize_lock_keeps}
use Rattle.cht_core.proofs.MoveSteps.{move_edge_keeps}
use Rattle.cht_core.proofs.NewLevels.{put_new_level_keeps}
use Rattle.cht_core.proofs.PutHeads.{put_head_keeps}
use Rattle.cht_core.proofs.Redirects.{redirect_head_keeps}
use Rattle.cht_core.proofs.SectionSteps.{draw_keeps, raise_counter_keeps, open_section_keeps, close_section_keeps}
use Rattle.cht_core.proofs.SlotSteps.{put_meta_keeps, put_text_keeps, put_link_keeps, put_count_keeps, put_next_generation_keeps, claim_slot_keeps, free_slot_keeps}
use Rattle.cht_core.proofs.StoreLevels.{store_level_keeps}
use Rattle.cht_core.proofs.Unlinking.{unlink_keeps}

-- each step of the kind keeps a table that backs it
abbrev pub StepsKeep : StepKind → Type 0
StepsKeep kind = (s : Step) → (access_of s).kind ≡ kind → KeepsTable s

pub draws_keep : StepsKeep K1
draws_keep step.LoadDraws is = load_draws_keeps
draws_keep step.Draw is = draw_keeps
draws_keep _ is = absurd (cc)

pub claims_keep : StepsKeep K2
claims_keep (step.ClaimSlot slot) is = claim_slot_keeps slot
claims_keep _ is = absurd (cc)

pub stores_into_an_own_slot_keep : StepsKeep K3
stores_into_an_own_slot_keep (step.PutMeta slot meta) is = put_meta_keeps slot meta
stores_into_an_own_slot_keep (step.PutText slot at word) is = put_text_keeps slot at word
stores_into_an_own_slot_keep (step.PutLink slot next) is = put_link_keeps slot next
stores_into_an_own_slot_keep (step.PutCount h holds) is = put_count_keeps h holds
stores_into_an_own_slot_keep (step.PutNextGeneration slot generation) is = put_next_generation_keeps slot generation
stores_into_an_own_slot_keep _ is = absurd (cc)

pub frees_keep : StepsKeep K4
frees_keep (step.FreeSlot slot) is = free_slot_keeps slot
frees_keep _ is = absurd (cc)

pub loads_of_a_head_keep : StepsKeep K5
loads_of_a_head_keep (step.LoadHead row bucket) is = load_head_keeps row bucket
loads_of_a_head_keep _ is = absurd (cc)

pub loads_of_a_slot_keep : StepsKeep K6
loads_of_a_slot_keep (step.LoadLink slot) is = load_link_keeps slot
loads_of_a_slot_keep (step.LoadMeta slot) is = load_meta_keeps slot
loads_of_a_slot_keep (step.LoadText slot at) is = load_text_keeps slot at
loads_of_a_slot_keep (step.LoadCount slot) is = load_count_keeps slot
loads_of_a_slot_keep (step.SeeEntry kind slot) is = see_entry_keeps kind slot
loads_of_a_slot_keep (step.SeeHandle change h) is = see_handle_keeps change h
loads_of_a_slot_keep _ is = absurd (cc)

pub creates_keep : StepsKeep K7
creates_keep (step.CreateEntry h row bucket head) is = create_entry_keeps h row bucket head
creates_keep _ is = absurd (cc)

pub changes_of_a_count_keep : StepsKeep K8
changes_of_a_count_keep (step.TakeEntry slot count) is = take_entry_keeps slot count
changes_of_a_count_keep (step.ChangeEntry change h count) is = change_entry_keeps change h count
changes_of_a_count_keep _ is = absurd (cc)

pub loads_of_the_counter_keep : StepsKeep K9
loads_of_the_counter_keep step.LoadCounter is = load_counter_keeps
loads_of_the_counter_keep _ is = absurd (cc)

pub openings_of_a_section_keep : StepsKeep K10
openings_of_a_section_keep (step.OpenSection number counter) is = open_section_keeps number counter
openings_of_a_section_keep _ is = absurd (cc)

pub closings_of_a_section_keep : StepsKeep K11
closings_of_a_section_keep (step.CloseSection number) is = close_section_keeps number
closings_of_a_section_keep _ is = absurd (cc)

pub graces_keep : StepsKeep K12
graces_keep step.RaiseCounter is = raise_counter_keeps
graces_keep _ is = absurd (cc)

pub loads_of_a_section_keep : StepsKeep K13
loads_of_a_section_keep (step.LoadSection number) is = load_section_keeps number
loads_of_a_section_keep _ is = absurd (cc)

pub locks_keep : StepsKeep K14
locks_keep (step.LockHead row bucket head) is = lock_head_keeps row bucket head
locks_keep _ is = absurd (cc)

pub unlocks_keep : StepsKeep K15
unlocks_keep (step.UnlockHead row bucket first) is = unlock_head_keeps row bucket first
unlocks_keep _ is = absurd (cc)

pub unlinkings_keep : StepsKeep K16
unlinkings_keep (step.Unlink slot from next) is = unlink_keeps slot from next
unlinkings_keep _ is = absurd (cc)

pub takings_of_the_resize_lock_keep : StepsKeep K17
takings_of_the_resize_lock_keep (step.TakeResizeLock number) is = take_resize_lock_keeps number
takings_of_the_resize_lock_keep _ is = absurd (cc)

pub givings_of_the_resize_lock_keep : StepsKeep K18
givings_of_the_resize_lock_keep step.GiveResizeLock is = give_resize_lock_keeps
givings_of_the_resize_lock_keep _ is = absurd (cc)

pub loads_of_the_level_keep : StepsKeep K19
loads_of_the_level_keep step.LoadLevel is = load_level_keeps
loads_of_the_level_keep _ is = absurd (cc)

pub loads_of_the_new_level_keep : StepsKeep K20
loads_of_the_new_level_keep step.LoadNewLevel is = load_new_level_keeps
loads_of_the_new_level_keep _ is = absurd (cc)

pub heads_made_keep : StepsKeep K21
heads_made_keep (step.PutHead row bucket first) is = put_head_keeps row bucket first
heads_made_keep _ is = absurd (cc)

pub new_levels_keep : StepsKeep K22
new_levels_keep (step.PutNewLevel level) is = put_new_level_keeps level
new_levels_keep _ is = absurd (cc)

pub redirects_keep : StepsKeep K23
redirects_keep (step.RedirectHead row bucket first) is = redirect_head_keeps row bucket first
redirects_keep _ is = absurd (cc)

pub moves_keep : StepsKeep K24
moves_keep (step.MoveEdge from next) is = move_edge_keeps from next
moves_keep _ is = absurd (cc)

pub levels_keep : StepsKeep K25
levels_keep (step.StoreLevel level) is = store_level_keeps level
levels_keep _ is = absurd (cc)

pub joins_keep : StepsKeep K26
joins_keep (step.JoinChains slot next) is = join_chains_keeps slot next
joins_keep _ is = absurd (cc)
