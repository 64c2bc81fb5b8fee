-- `unite_tables` meets its contract.
use Rattle.union.proofs.UnionLaws.{united_labels_lem}
use Rattle.union.proofs.united.unite_tables.Goals as goal

pub returns : goal.returns
returns c =
    λ g h x y.
    let fresh = c.new_names-fresh.ensures g h x.indexes y.indexes in
    record {
      rules =
          c.new_rules-all.ensures g h (record { old_table = x.indexes; addition = y; new_names = fresh }) (c.old_rules-v.ensures.0 _ _ g x);
      new_names = fresh;
      labels = united_labels_lem g h;
    }
