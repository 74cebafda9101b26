mod WrongBodies
