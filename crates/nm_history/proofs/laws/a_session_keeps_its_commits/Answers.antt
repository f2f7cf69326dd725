use Rattle.nm_history.proofs.BankLemmas.{session-disk}
use Rattle.nm_history.proofs.laws.a_session_keeps_its_commits.Goals as goal

pub returns : goal.returns
returns c = λ opening commits acked before opened now image image_now held is from_entry kept.
    session-disk c.nothing_new_twice_is_nothing_new.ensures c.a_sync_leaves_nothing_new.ensures c.an_index_is_held_once.ensures
    opening commits acked before opened now image image_now held is kept from_entry
