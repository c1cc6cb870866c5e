use Rattle.std.proofs.Common.{refl}
use Rattle.std.proofs.lemmas.Result.{err_from_is_err_and}
use Rattle.retro_tree.specs.Tree.{Tree}
use Rattle.casebook_script.specs.Reads.{FailsAs}
use Rattle.casebook_script.specs.Scripts.{script_text_of}
use Rattle.casebook_script.specs.declared.fault.TableFault.{TableFault}
use Rattle.casebook_script.specs.declared.fault.TableFault.TheVariants.{BadRow, NoMem, NotUtf8}
use Rattle.casebook_snapshot_read.specs.Documents.{document_view}
use Rattle.casebook_folder_cli.specs.Scripting.{IsNoScript, IsTreeIn, PartsValue, parts_view, script_fault_of_table}
use Rattle.casebook_folder_cli.proofs.scripting.script_answer.Goals as goal

-- the fault of a table is why there is no script
no_table : (parts : PartsValue) (tree : Tree) → IsTreeIn parts.document tree → (fault : TableFault)
    → FailsAs fault (script_text_of tree parts.sessions parts.lines)
    → IsNoScript parts (script_fault_of_table fault)
no_table parts tree is NoMem fails = tt
no_table parts tree is (NotUtf8 table) fails = record { tree = tree; is_tree = is; is_fault = fails }
no_table parts tree is (BadRow table row why) fails = record { tree = tree; is_tree = is; is_fault = fails }

pub returns-in_err-script_of_tables-clause-err : goal.returns-in_err-script_of_tables-clause-err
returns-in_err-script_of_tables-clause-err c =
    let p = err_from_is_err_and c.from_residual-in_err-script_of_tables.result
    c.from_residual-in_err-script_of_tables.ensures.1 in
    rw (p.1, p.2)
    (no_table (parts_view c.args.parts.now) c.in_ok-state.state.tree
    (record {
      snapshot = c.in_ok-snapshot.field-0.snapshot;
      at = c.in_ok-snapshot.field-0.at;
      is_snapshot = record {
        read = document_view c.in_ok-snapshot.field-0;
        is_document = c.in_ok-snapshot.ensures;
        is_snapshot = refl;
        is_place = refl;
      };
      is_tree = c.in_ok-state.ensures;
    })
    c.in_err-script_of_tables.field-0.0 c.in_err-script_of_tables.ensures.text)

pub returns-clause-ok : goal.returns-clause-ok
returns-clause-ok c = record {
  tree = c.in_ok-state.state.tree;
  is_tree = record {
    snapshot = c.in_ok-snapshot.field-0.snapshot;
    at = c.in_ok-snapshot.field-0.at;
    is_snapshot = record {
      read = document_view c.in_ok-snapshot.field-0;
      is_document = c.in_ok-snapshot.ensures;
      is_snapshot = refl;
      is_place = refl;
    };
    is_tree = c.in_ok-state.ensures;
  };
  is_text = c.in_ok-script_of_tables.ensures.text;
}
