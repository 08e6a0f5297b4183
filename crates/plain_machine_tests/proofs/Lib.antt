mod Started
