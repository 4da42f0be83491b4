use Rattle.node_arena.proofs.Arena.drop_tree.Given as goal

abbrev pub ghosts-drop_leaves : goal.ghosts-drop_leaves
ghosts-drop_leaves a = record { name = a.blank.name; parts = a.blank.parts }
