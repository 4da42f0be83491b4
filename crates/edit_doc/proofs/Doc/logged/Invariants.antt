use Rattle.edit_doc.proofs.Doc.logged.Given as goal

abbrev pub ghosts-logged_there : goal.ghosts-logged_there
ghosts-logged_there a = record { name = a.blank.name; parts = a.blank.parts }
