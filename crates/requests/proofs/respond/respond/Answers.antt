use Rattle.requests.proofs.respond.respond.Goals as goal

pub returns-in-At-clause-text : goal.returns-in-At-clause-text
returns-in-At-clause-text c = rw c.in-At.is c.height_text.ensures.text

pub returns-in-At-clause-obstacle : goal.returns-in-At-clause-obstacle
returns-in-At-clause-obstacle c = rw c.in-At.is c.height_text.ensures.obstacle

pub returns-in-Slab-clause-text : goal.returns-in-Slab-clause-text
returns-in-Slab-clause-text c = rw c.in-Slab.is c.between_heights_text.ensures.text

pub returns-in-Slab-clause-obstacle : goal.returns-in-Slab-clause-obstacle
returns-in-Slab-clause-obstacle c = rw c.in-Slab.is c.between_heights_text.ensures.obstacle

pub returns-in-Layers-clause-text : goal.returns-in-Layers-clause-text
returns-in-Layers-clause-text c = rw c.in-Layers.is c.heights_text.ensures.text

pub returns-in-Layers-clause-obstacle : goal.returns-in-Layers-clause-obstacle
returns-in-Layers-clause-obstacle c = rw c.in-Layers.is c.heights_text.ensures.obstacle

pub returns-in-Rod-clause-text : goal.returns-in-Rod-clause-text
returns-in-Rod-clause-text c = rw c.in-Rod.is c.along_line_text.ensures.text

pub returns-in-Rod-clause-obstacle : goal.returns-in-Rod-clause-obstacle
returns-in-Rod-clause-obstacle c = rw c.in-Rod.is c.along_line_text.ensures.obstacle
